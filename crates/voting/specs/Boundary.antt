-- The boundary on values: fork part, ordinary votes, entry 9. docs/RULES.md, "Boundary".
-- Assumes nothing.
use Rattle.std.specs.Prelude.{Result, Ok, Err, ℕ, Bool, true, false, cond, not, ◌&&◌, List, ℤ, pos, None, Some}
use Rattle.voting.specs.declared.settings.VotingConfig.{VotingConfig}
use Rattle.voting.specs.Value.{Value}
use Rattle.voting.specs.declared.table.Table.{Table}
use Rattle.voting.specs.declared.tally.Entry.{Entry}
use Rattle.voting.specs.declared.boundary.Boundary.{Boundary}
use Rattle.codec.specs.declared.refusal.Refusal.{Refusal}
use Rattle.codec.specs.Check.{and_then}
use Rattle.voting.specs.Common.{eq_z}
use Rattle.voting.specs.Table.{id_subblocks_per_block, id_block_version, lookup, update, with_fork}
use Rattle.voting.specs.Header.{soft_fork_vote}
use Rattle.voting.specs.Tally.{first_count}
use Rattle.voting.specs.ForkPart.{no_round, fork_part}
use Rattle.voting.specs.Ordinary.{ordinary_votes}

-- an entry is this number; an entry is absent
unfoldable pub is_number : Value → ℤ → Bool
is_number None z = false
is_number (Some y) z = eq_z y z

unfoldable pub is_absent : Value → Bool
is_absent None = true
is_absent (Some y) = false

-- the version at which entry 9 is set by itself, and to what
abbrev pub subblocks_version : ℤ
subblocks_version = pos 4

abbrev pub subblocks_at_first : ℤ
subblocks_at_first = pos 30

-- entry 9 becomes 30 in a table of version 4 that has none, unless the update that is activated here disables rule 409
unfoldable pub with_subblocks : Bool → Table → Table
with_subblocks disabled t =
    cond (is_number (lookup t id_block_version) subblocks_version && is_absent (lookup t id_subblocks_per_block) && not disabled)
    (update t id_subblocks_per_block (Some subblocks_at_first)) t

-- The height, the old table, the tally of the epoch before, whether the boundary header votes 120, and whether the proposed update disables rule
-- 409: the fork part, with the count of the first entry for the fork (17 to 20); the ordinary votes, which read the table as it then stands (13
-- and 14); entry 9.
unfoldable pub boundary_of : VotingConfig → ℕ → Table → List Entry → Bool → Bool → Result Boundary Refusal
boundary_of g height t tally vote disables =
    and_then (fork_part g height vote (first_count (pos soft_fork_vote) tally) t.fork)
    (λ part.
    let from = with_fork t part.fork in
    and_then (ordinary_votes g from tally from)
    (λ voted. Ok (record { table = with_subblocks (part.round.rose && disables) voted; round = part.round })))

-- What goes on after a boundary that was answered so, from the old table. Refused: the old table, and nothing happens to a round
unfoldable pub goes_on : Table → Result Boundary Refusal → Boundary
goes_on t (Ok b) = b
goes_on t (Err e) = record { table = t; round = no_round }
