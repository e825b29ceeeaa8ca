-- The boundary of a tally in another order, and where the order matters.
-- Assumes nothing.
use mathlib.Core.Path.{◌≡◌, refl, sym, ap, ◌∙◌, subst}
use mathlib.Core.Bool.{Bool}
use mathlib.Core.List.{List, Permᴰ}
use Prim.Native.Nat.{ℕ}
use native.Mathlib.Omega.{arith}
use lib.IntN.{pos, nat_abs}
use Rattle.std.specs.Prelude.{Result, Ok, Err, None, Some}
use Rattle.codec.specs.declared.refusal.Refusal.{Refusal}
use Rattle.voting.specs.declared.settings.VotingConfig.{VotingConfig}
use Rattle.voting.specs.Value.{Value}
use Rattle.voting.specs.declared.table.Table.{Table}
use Rattle.voting.specs.declared.tally.Entry.{Entry}
use Rattle.voting.specs.Common.{eq_z}
use Rattle.voting.specs.Settings.{change_approved, settings_large}
use Rattle.voting.specs.Table.{lookup, update}
use Rattle.voting.specs.Tally.{first_count}
use Rattle.voting.specs.ForkPart.{begun, version_by, two_for_one, forced, finished, opening, by_start, fork_part}
use Rattle.voting.specs.Ordinary.{least_of, greatest_of, fixed_step_of, step_size, raised, lowered, moved, known, counts, writes, approved_vote, voted, ordinary_votes}
use Rattle.voting.specs.Boundary.{is_number, is_absent, with_subblocks, boundary_of}
use Rattle.voting.specs.Order.{Consistent, Alike}
use Rattle.voting.proofs.Laws.Order.{boundary-same, then-alike, alike_equal}
use Rattle.extension.specs.declared.boundary.Computed.{Computed}
use Rattle.extension.specs.Update.{update_of, disables}
use Rattle.extension.specs.Boundary.{activates, computed_of, goes_on}
use Rattle.extension.specs.Order.{InAnyOrder, only_first, OrderMatters}

computed_alike : (g : VotingConfig) (height : ℕ) (t : Table) (tally : List Entry) (vote : Bool) (s : List ℕ) → Consistent tally → (other : List Entry) → Permᴰ tally other
    → Alike (computed_of g height t tally vote s) (computed_of g height t other vote s)
unfolding computed_of
computed_alike g height t tally vote s consistent other moved =
    then-alike (update_of s) (update_of s) _ _ (alike_equal (update_of s) (update_of s) refl)
    (λ u. let d = disables s u 409 in
    then-alike (boundary_of g height t tally vote d) (boundary_of g height t other vote d) _ _ (boundary-same g height t moved consistent vote d) (λ b. refl))

-- what goes on after alike answers is the same: where both are refused, the old table
pub goes-on-same : (t : Table) (x y : Result Computed Refusal) → Alike x y → goes_on t x ≡ goes_on t y
unfolding goes_on
goes-on-same t (Ok a) (Ok b) p = p
goes-on-same t (Ok a) (Err e) p = absurd p
goes-on-same t (Err d) (Ok b) p = absurd p
goes-on-same t (Err d) (Err e) p = refl

computed_same : (g : VotingConfig) (height : ℕ) (t : Table) (tally : List Entry) (vote : Bool) (s : List ℕ) → InAnyOrder g height t tally vote s (computed_of g height t tally vote s)
computed_same g height t tally vote s consistent other moved =
    let a = computed_alike g height t tally vote s consistent other moved in
    record { answer = a; onward = goes-on-same t _ _ a }

-- as a part of what a call ensures, beside its equation
pub in-any-order : (g : VotingConfig) (height : ℕ) (t : Table) (tally : List Entry) (vote : Bool) (s : List ℕ) (r : Result Computed Refusal) → r ≡ computed_of g height t tally vote s
    → (r ≡ computed_of g height t tally vote s) × InAnyOrder g height t tally vote s r
in-any-order g height t tally vote s r e = (e, subst (InAnyOrder g height t tally vote s) (sym e) (computed_same g height t tally vote s))

-- ---- the examples, computed

abbrev number_in : Value → ℕ
number_in None = 0
number_in (Some z) = nat_abs z

unfoldable first : Table → ℕ
first t = number_in (lookup t 1)

first-is : (n : ℕ) → first (only_first (pos n)) ≡ n
unfolding first lookup
first-is n = refl

differ : only_first (pos 2500000) ≡ only_first (pos 2475000) → ⊥
differ e = let q : ◌≡◌ {A = ℕ} 2500000 2475000 = sym (first-is 2500000) ∙ ap first e ∙ first-is 2475000 in omega arith

pub order-matters : OrderMatters
unfolding eq_z change_approved settings_large lookup update first_count begun version_by two_for_one forced finished opening by_start fork_part least_of greatest_of fixed_step_of step_size raised lowered moved known counts writes approved_vote voted ordinary_votes is_number is_absent with_subblocks boundary_of update_of activates computed_of
order-matters =
    record {
      exchanged = Permᴰ.swap refl refl;
      down-then-up = refl;
      up-then-down = refl;
      not-the-same = λ s. differ (ap (λ (c : Computed). c.table) s);
      unknown-then-absent = refl;
      absent-then-unknown = refl;
    }
