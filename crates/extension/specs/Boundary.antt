-- The boundary with the bytes of the proposed settings update. docs/RULES.md, "Boundary".
-- Assumes nothing.
use Rattle.std.specs.Prelude.{ℕ, Bool, cond, List, Result, Ok, Err}
use Rattle.voting.specs.ForkPart.{no_round}
use Rattle.voting.specs.Boundary.{boundary_of}
use Rattle.voting.specs.declared.settings.VotingConfig.{VotingConfig}
use Rattle.voting.specs.declared.table.Table.{Table}
use Rattle.voting.specs.declared.tally.Entry.{Entry}
use Rattle.voting.specs.declared.boundary.Boundary.{Boundary}
use Rattle.extension.specs.declared.update.Update.{Update}
use Rattle.codec.specs.declared.refusal.Refusal.{Refusal}
use Rattle.codec.specs.Check.{and_then}
use Rattle.extension.specs.declared.boundary.Computed.{Computed}
use Rattle.extension.specs.Update.{no_update, update_of, disables}

-- the rule under which entry 9 is not set by itself
abbrev pub subblocks_rule : ℕ
subblocks_rule = 409

-- the update is activated where the round raises the version, else the activated one is empty
unfoldable pub activates : Update → Boundary → Computed
activates u b = record { table = b.table; round = b.round; activated = cond b.round.rose u no_update }

-- 22, 7 or 8 come first
unfoldable pub computed_of : VotingConfig → ℕ → Table → List Entry → Bool → List ℕ → Result Computed Refusal
computed_of g height t tally vote s =
    and_then (update_of s)
    (λ u. and_then (boundary_of g height t tally vote (disables s u subblocks_rule)) (λ b. Ok (activates u b)))

-- What goes on after a boundary that was answered so, from the old table. Refused: the old table, nothing happens to a round, and no update is
-- activated
unfoldable pub goes_on : Table → Result Computed Refusal → Computed
goes_on t (Ok x) = x
goes_on t (Err e) = record { table = t; round = no_round; activated = no_update }
