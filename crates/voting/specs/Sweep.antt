-- The boundary in one pass over the tally. This is the code's shape and need not be believed: what the calls mean is `boundary_of`
-- (Boundary.antt), and a law joins the two (proofs/Laws/Sweep.antt).
-- Assumes nothing.
use Rattle.std.specs.Prelude.{Result, Ok, ℕ, Bool, true, false, cond, not, ◌&&◌, List, [], ◌∷◌, pos}
use Rattle.voting.specs.declared.settings.VotingConfig.{VotingConfig}
use Rattle.voting.specs.declared.table.Table.{Table}
use Rattle.voting.specs.declared.tally.Entry.{Entry}
use Rattle.voting.specs.declared.boundary.Sweep.{Sweep}
use Rattle.voting.specs.declared.boundary.Boundary.{Boundary}
use Rattle.codec.specs.declared.refusal.Refusal.{Refusal}
use Rattle.codec.specs.Check.{and_then}
use Rattle.voting.specs.Common.{eq_z}
use Rattle.voting.specs.Table.{with_fork}
use Rattle.voting.specs.Header.{soft_fork_vote}
use Rattle.voting.specs.ForkPart.{fork_part}
use Rattle.voting.specs.Ordinary.{voted}
use Rattle.voting.specs.Boundary.{with_subblocks}

-- before the first entry
unfoldable pub begin_sweep : Table → Sweep
begin_sweep t = record { found = false; votes = 0; voted = Ok t }

-- an entry: the count of the first one for the fork is kept, and the ordinary votes read the old table
unfoldable pub sweep_entry : VotingConfig → Table → Sweep → Entry → Sweep
sweep_entry g t s e =
    record {
      found = cond (eq_z e.id (pos soft_fork_vote)) true s.found;
      votes = cond (eq_z e.id (pos soft_fork_vote) && not s.found) e.count s.votes;
      voted = and_then s.voted (voted g t e);
    }

unfoldable pub sweep_entries : VotingConfig → Table → Sweep → List Entry → Sweep
sweep_entries g t s [] = s
sweep_entries g t s (e ∷ es) = sweep_entries g t (sweep_entry g t s e) es

-- after the last entry: the fork part, and the ordinary entries that the votes left beside it
unfoldable pub finish_sweep : VotingConfig → ℕ → Table → Bool → Bool → Sweep → Result Boundary Refusal
finish_sweep g height t vote disables s =
    and_then (fork_part g height vote s.votes t.fork)
    (λ part.
    and_then s.voted
    (λ voted. Ok (record { table = with_subblocks (part.round.rose && disables) (with_fork voted part.fork); round = part.round })))
