-- The boundary of a tally in another order. docs/RULES.md, "Boundary", "In another order". `List.Permᴰ` is the library's rearrangement of
-- a list: nothing, one element before two rearranged lists, two neighbours exchanged, and one rearrangement after another.
-- Assumes nothing.
use Rattle.std.specs.Prelude.{Result, Ok, Err, ℕ, ◌≡◌, Bool, false, ℤ, pos, negsuc, None, Some}
use mathlib.Core.List.{List, [], ◌∷◌, Permᴰ}
use Rattle.codec.specs.declared.refusal.Refusal.{Refusal}
use Rattle.codec.specs.declared.refusal.Refusal.TheVariants.{UnknownParameter, AbsentParameter}
use Rattle.codec.specs.Check.{and_then}
use Rattle.voting.specs.declared.settings.VotingConfig.{VotingConfig}
use Rattle.voting.specs.declared.table.Table.{Table}
use Rattle.voting.specs.declared.tally.Entry.{Entry}
use Rattle.voting.specs.Settings.{settings}
use Rattle.voting.specs.Table.{fork_entries}
use Rattle.voting.specs.Order.{Consistent, Alike}
use Rattle.extension.specs.declared.boundary.Computed.{Computed}
use Rattle.extension.specs.Boundary.{computed_of, goes_on}

-- two answers from one old table: the same one, whether it is a refusal or not, or each is refused by 13 or 14; and in any case the same table
-- goes on, with the same of a round and the same activated update
pub record SameOutcome (t : Table) (x y : Result Computed Refusal) : Type 0 where
  pub answer : Alike x y
  pub onward : goes_on t x ≡ goes_on t y

-- the answer r to a tally in which no entry repeats or contradicts another, beside the answer to every rearrangement of it
abbrev pub InAnyOrder : VotingConfig → ℕ → Table → List Entry → Bool → List ℕ → Result Computed Refusal → Type 0
InAnyOrder g height t tally vote s r =
    Consistent tally → (other : List Entry) → Permᴰ tally other → SameOutcome t r (computed_of g height t other vote s)

-- ---- where two entries are for one parameter, the order does matter

-- a table of version 1 with parameter 1 alone
abbrev pub only_first : ℤ → Table
only_first z =
    record {
      ordinary = Some z ∷ None ∷ None ∷ None ∷ None ∷ None ∷ None ∷ None ∷ None ∷ [];
      fork = fork_entries None None (Some (pos 1));
    }

-- one vote for an id, and the boundary at L = 1, where it is enough; there is no update
abbrev pub once : ℤ → Entry
once id = record { id = id; count = 1 }

abbrev pub at_one : List Entry → Result Computed Refusal
at_one tally = computed_of (settings 1 1 1 0) 1 (only_first (pos 2500000)) tally false []

abbrev pub table_of : Result Computed Refusal → Result Table Refusal
table_of r = and_then r (λ x. Ok x.table)

-- negsuc 0 is -1; 10 is no parameter, and parameter 2 is absent
pub record OrderMatters : Type 0 where
  pub exchanged : Permᴰ (once (negsuc 0) ∷ once (pos 1) ∷ []) (once (pos 1) ∷ once (negsuc 0) ∷ [])
  pub down-then-up : table_of (at_one (once (negsuc 0) ∷ once (pos 1) ∷ [])) ≡ Ok (only_first (pos 2500000))
  pub up-then-down : table_of (at_one (once (pos 1) ∷ once (negsuc 0) ∷ [])) ≡ Ok (only_first (pos 2475000))
  pub not-the-same : Alike (at_one (once (negsuc 0) ∷ once (pos 1) ∷ [])) (at_one (once (pos 1) ∷ once (negsuc 0) ∷ [])) → ⊥
  pub unknown-then-absent : at_one (once (pos 10) ∷ once (pos 2) ∷ []) ≡ Err UnknownParameter
  pub absent-then-unknown : at_one (once (pos 2) ∷ once (pos 10) ∷ []) ≡ Err AbsentParameter
