-- How fast the ordinary parameters move on mainnet, in numbers. docs/RULES.md, "Steps over the years".
-- Assumes nothing.
use Rattle.std.specs.Prelude.{Result, Ok, ℕ, ◌≤◌, ◌≡◌, List, [], ℤ, Some}
use Rattle.voting.specs.Common.{Each, Bytes}
use Rattle.voting.specs.declared.table.Table.{Table}
use Rattle.voting.specs.Table.{lookup}
use Rattle.voting.specs.Steps.{Step}
use Rattle.codec.specs.declared.refusal.Refusal.{Refusal}
use Rattle.archive.specs.declared.replay.Replay.{Replay}
use Rattle.archive.specs.Replay.{replay_of, opened}
use Rattle.archive.specs.Rounds.{state_after}
use Rattle.archive.specs.Steps.{epoch_before}

-- Of an opening, refused or not, of every list of byte strings handed to the replay one after another, refused ones included, and of every further one that is
-- accepted: each parameter p from 1 to 9 that the old table has, as z, moves by one step of z or stays. It moves up exactly when z is below its
-- greatest value and more than 512 votes for p were counted in the epoch before, down exactly when z is above its least value and more than
-- 512 for -p were; both are never so.
abbrev pub MainnetSteps : Table → Result Replay Refusal → Type 0
MainnetSteps t r =
    (calls : List (List ℕ)) → Each Bytes calls → (xs : List ℕ) (next : Replay) → replay_of (state_after (opened t r) calls) xs ≡ Ok next
    → (p : ℕ) → 1 ≤ p → p ≤ 9 → (z : ℤ) → lookup (state_after (opened t r) calls).table p ≡ Some z
    → Step 512 (epoch_before [] (opened t r) calls) p z (lookup next.table p)
