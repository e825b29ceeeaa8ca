-- The promise over every list of records, of the replay itself: what is handed to it are byte strings, one after another, refused ones
-- included. docs/RULES.md, "Replay". What the promise says, in mainnet's numbers, is crates/rounds/specs/Mainnet.antt.
-- Assumes nothing.
use Rattle.std.specs.Prelude.{Result, Ok, Err, ℕ, ◌≤◌, ◌≡◌, List, [], ◌∷◌, pos, None, Some}
use Rattle.voting.specs.declared.settings.VotingConfig.{VotingConfig}
use Rattle.voting.specs.declared.table.Table.{Table}
use Rattle.voting.specs.declared.tally.Tally.{Tally}
use Rattle.voting.specs.Settings.{mainnet}
use Rattle.voting.specs.Table.{fork_entries}
use Rattle.voting.specs.Header.{soft_fork_vote}
use Rattle.voting.specs.Tally.{entries, first_count}
use Rattle.rounds.specs.Replay.{Answer, refused, accepted, run}
use Rattle.rounds.specs.Replay as Interface
use Rattle.rounds.specs.Mainnet.{Promise}
use Rattle.codec.specs.declared.refusal.Refusal.{Refusal}
use Rattle.archive.specs.declared.record.RecordPlace.{RecordPlace}
use Rattle.archive.specs.declared.record.Unread.{Unread}
use Rattle.archive.specs.declared.replay.Replay.{Replay}
use Rattle.archive.specs.declared.replay.Rejection.{Rejection}
use Rattle.archive.specs.Record.{record_at}
use Rattle.archive.specs.declared.replay.Rejection.TheVariants.{Refused, Mismatch}
use Rattle.codec.specs.declared.refusal.Refusal.TheVariants.{EntryDiffers}
use Rattle.codec.specs.Refusal.{number}
use Rattle.archive.specs.Replay.{vote_bytes, votes_size, replay_of, state_by}

-- a state without its settings, and with them
pub record Core : Type 0 where
  pub table : Table
  pub next : ℕ
  pub tally : Tally

abbrev pub core : Replay → Core
core s = record { table = s.table; next = s.next; tally = s.tally }

abbrev pub full : VotingConfig → Core → Replay
full g c = record { settings = g; table = c.table; next = c.next; tally = c.tally }

-- the replay's answer to a record on a state, as the rounds see it
unfoldable pub answer : Core → Result Replay Rejection → Answer Core
answer c (Ok s) = accepted (core s)
answer c (Err (Refused e)) = refused (number e)
answer c (Err (Mismatch id)) = refused (number EntryDiffers)

-- the height and the vote bytes of a record
unfoldable pub record_height : Result RecordPlace Unread → ℕ
record_height (Ok p) = p.height
record_height (Err e) = 0

unfoldable pub record_votes : List ℕ → Result RecordPlace Unread → List ℕ
record_votes xs (Ok p) = vote_bytes xs p
record_votes xs (Err e) = []

-- the replay by these settings
abbrev pub interface : VotingConfig → Interface.Replay
interface g =
    record {
      State = Core;
      Record = List ℕ;
      fork = λ c. c.table.fork;
      next = λ c. c.next;
      fork_votes = λ c. first_count (pos soft_fork_vote) (entries c.tally);
      height = λ xs. record_height (record_at xs (votes_size g));
      votes = λ xs. record_votes xs (record_at xs (votes_size g));
      step = λ c xs. answer c (replay_of (full g c) xs);
    }

-- the state after a list of byte strings: each call gets the state that the last one left
unfoldable pub state_after : Replay → List (List ℕ) → Replay
state_after s [] = s
state_after s (xs ∷ rest) = state_after (state_by s xs) rest

-- the replay's own states go the way that the promise speaks of, its settings stay, and the promise holds
pub record Kept (s : Replay) (version : ℕ) (calls : List (List ℕ)) : Type 0 where
  pub settings-stay : (state_after s calls).settings ≡ s.settings
  pub same-run : core (state_after s calls) ≡ run (interface mainnet) (core s) calls
  pub promise : Promise (interface mainnet) (core s) version [] calls

-- what an opening promises, if it is not refused and its table has no 121 and 122 and a version from 1 to 255: whatever is handed to the
-- replay, one byte string after another
abbrev pub RoundsKept : Table → Result Replay Refusal → Type 0
RoundsKept t r =
    (version : ℕ) → 1 ≤ version → version ≤ 255 → t.fork ≡ fork_entries None None (Some (pos version)) → (s : Replay) → r ≡ Ok s
    → (calls : List (List ℕ)) → Kept s version calls
