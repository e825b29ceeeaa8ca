-- How the ordinary parameters move, over every list of byte strings that is handed to the replay. docs/RULES.md, "Steps over the years".
-- Assumes nothing.
use Rattle.std.specs.Prelude.{Result, Ok, ℕ, ◌/◌, ◌≡◌, List, []}
use Rattle.voting.specs.Common.{Each, Bytes}
use Rattle.voting.specs.declared.table.Table.{Table}
use Rattle.voting.specs.Settings.{voting_length}
use Rattle.voting.specs.Steps.{Stepped}
use Rattle.rounds.specs.Epochs.{last_of}
use Rattle.rounds.specs.Replay.{epochs}
use Rattle.archive.specs.declared.replay.Replay.{Replay}
use Rattle.codec.specs.declared.refusal.Refusal.{Refusal}
use Rattle.archive.specs.Replay.{replay_of, opened}
use Rattle.archive.specs.Rounds.{core, interface, state_after}

-- the vote bytes of the last accepted record among these calls; if there is none, those of the epoch before the calls
unfoldable pub epoch_before : List ℕ → Replay → List (List ℕ) → List ℕ
epoch_before before s calls = last_of before (epochs (interface s.settings) (core s) calls)

-- after every list of byte strings, refused ones included: the boundary of every further one that is accepted
abbrev pub StepsBy : ℕ → List ℕ → Replay → Type 0
StepsBy half before s =
    (calls : List (List ℕ)) → Each Bytes calls → (xs : List ℕ) (next : Replay) → replay_of (state_after s calls) xs ≡ Ok next
    → Stepped half (epoch_before before s calls) (state_after s calls).table next.table

-- what an opening with a table promises, refused or not, by its settings: more than half the length. Before its first record no votes were
-- counted
abbrev pub StepsKept : Table → Result Replay Refusal → Type 0
StepsKept t r = StepsBy (voting_length (opened t r).settings / 2) [] (opened t r)
