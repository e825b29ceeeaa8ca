-- The boundary, by what the reader of the update and the boundary on values answered. Assumes nothing.
use mathlib.Core.Path.{◌≡◌, refl}
use mathlib.Core.Bool.{Bool, true, false}
use mathlib.Core.List.{List}
use Prim.Native.Nat.{ℕ}
use Rattle.std.specs.Prelude.{Result, Ok, Err}
use Rattle.std.specs.Result.{result_unwrap_or}
use Rattle.codec.specs.declared.refusal.Refusal.{Refusal}
use Rattle.voting.specs.ForkPart.{no_round}
use Rattle.voting.specs.Boundary.{boundary_of}
use Rattle.voting.specs.declared.settings.VotingConfig.{VotingConfig}
use Rattle.voting.specs.declared.table.Table.{Table}
use Rattle.voting.specs.declared.tally.Entry.{Entry}
use Rattle.voting.specs.declared.boundary.Boundary.{Boundary}
use Rattle.extension.specs.declared.update.Update.{Update}
use Rattle.extension.specs.Update.{no_update, update_of, disables}
use Rattle.extension.specs.declared.boundary.Computed.{Computed}
use Rattle.extension.specs.Boundary.{activates, computed_of, goes_on}

module _ (g : VotingConfig) (height : ℕ) (t : Table) (tally : List Entry) (vote : Bool) (s : List ℕ) where
  pub update-stop : (e : Refusal) → Err e ≡ update_of s → Err e ≡ computed_of g height t tally vote s
  unfolding computed_of
  update-stop e q = rw (← q)

  module _ (u : Update) (is_u : Ok u ≡ update_of s) (d : Bool) (is-d : d ≡ disables s u 409) where
    pub boundary-stop : (e : Refusal) → Err e ≡ boundary_of g height t tally vote d → Err e ≡ computed_of g height t tally vote s
    unfolding computed_of
    boundary-stop e q = rw (← is_u, ← is-d, ← q)

    pub boundary-pass : (b : Boundary) → Ok b ≡ boundary_of g height t tally vote d → Ok (activates u b) ≡ computed_of g height t tally vote s
    unfolding computed_of
    boundary-pass b q = rw (← is_u, ← is-d, ← q)

module _ (u : Update) (b : Boundary) where
  pub activates-it : b.round.rose ≡ true → record { table = b.table; round = b.round; activated = u } ≡ activates u b
  unfolding activates
  activates-it e = rw e

  pub activates-none : b.round.rose ≡ false → (n : Update) → n ≡ no_update → record { table = b.table; round = b.round; activated = n } ≡ activates u b
  unfolding activates
  activates-none e n q = rw (e, q)

-- what goes on after a boundary that is refused, or not
pub goes-on-is : (t : Table) (x : Result Computed Refusal) (n : Update) → n ≡ no_update → result_unwrap_or x (record { table = t; round = no_round; activated = n }) ≡ goes_on t x
unfolding goes_on
goes-on-is t (Ok y) n e = refl
goes-on-is t (Err r) n e = rw e
