-- A run over an input that comes in pieces: the library's calls, and what they mean. docs/RULES.md, "Replay".
-- Assumes nothing.
use Rattle.std.specs.Prelude.{Result, Ok, Err, ◌≡◌, ℕ, zero, suc, ◌+◌, ◌-◌, ◌*◌, ◌%◌, ◌^◌, ◌<◌, ◌≤◌, Bool, true, false, cond, ◌||◌, List, [], ◌++◌, length, take, drop, ◌==◌, nat_lt}
use Rattle.codec.specs.declared.refusal.Refusal.TheVariants.{OutputShort, RecordMalformed}
use Rattle.voting.specs.declared.settings.VotingConfig.{VotingConfig}
use Rattle.voting.specs.Settings.{voting_length}
use Rattle.codec.specs.declared.refusal.Refusal.{Refusal}
use Rattle.codec.specs.Refusal.{number}
use Rattle.codec.specs.Check.{Check, passed, and_then}
use Rattle.archive.specs.declared.record.RecordPlace.{RecordPlace}
use Rattle.archive.specs.declared.record.Unread.{Unread}
use Rattle.archive.specs.declared.record.Unread.TheVariants.{Short, Malformed}
use Rattle.archive.specs.declared.replay.Replay.{Replay}
use Rattle.archive.specs.declared.replay.Rejection.{Rejection}
use Rattle.archive.specs.Record.{body_most, record_at}
use Rattle.archive.specs.Replay.{votes_size, replay_of, rejection_number}
use Rattle.archive.specs.Rounds.{record_height}
use Rattle.stream.specs.declared.run.Run.{Run}
use Rattle.stream.specs.declared.run.Took.{Took}
use Rattle.stream.specs.declared.run.Fed.{Fed}
use Rattle.stream.specs.declared.run.Print.{Print}
use Rattle.stream.specs.declared.run.Print.TheVariants.{Nothing, Epoch, End}
use Rattle.stream.specs.Lines.{epoch_line, end_line, line_most}
use Rattle.stream.specs.Stream.{At, whole, short, malformed, Step, goes, stops, printed_after, printed, missing, Held}

-- ---- what is printed for an input of the archive's records

-- no further field can follow the three of a record
unfoldable pub end_of : Result RecordPlace Unread → At
end_of (Ok p) = whole p.end
end_of (Err (Short k)) = short k
end_of (Err Malformed) = malformed

unfoldable pub end_at : VotingConfig → List ℕ → At
end_at g bytes = end_of (record_at bytes (votes_size g))

-- what a record does to the replay's state
unfoldable pub step_by : ℕ → Result Replay Rejection → Step Replay
step_by height (Ok s) = goes s (epoch_line height s.table.fork)
step_by height (Err e) = stops (rejection_number e)

unfoldable pub step_of : Replay → List ℕ → Step Replay
step_of s bytes = step_by (record_height (record_at bytes (votes_size s.settings))) (replay_of s bytes)

-- the whole output, from a state on
unfoldable pub prints : Replay → List ℕ → List ℕ
prints s input = printed (end_at s.settings) step_of s input

-- ---- a run and its buffer

abbrev pub begun : Replay → Run
begun s = record { replay = s; accepted = 0; filled = 0; over = false }

-- the bytes so far of a record that is not whole stand at the start of the buffer
abbrev pub held : Run → List ℕ → List ℕ
held r cells = take r.filled cells

-- what a run prints for the input from here on, the last line included
unfoldable pub ahead : Run → List ℕ → List ℕ → List ℕ
ahead r cells input =
    cond r.over [] (printed_after (end_at r.replay.settings) step_of r.replay r.accepted (held r cells ++ input))

-- three tags with their lengths, the height, the longest body and the votes
abbrev pub longest_record : VotingConfig → ℕ
longest_record g = 13 + body_most + votes_size g

-- 21: a line might find no room, or the longest record; or the buffer does not have the bytes so far
unfoldable pub too_short : Run → (cells room : ℕ) → Bool
too_short r cells room = (nat_lt room line_most || nat_lt cells (longest_record r.replay.settings)) || nat_lt cells r.filled

-- a run and its buffer as they begin, and stay. L headers were read for each epoch that was counted, and heights end at 2^31, so that the
-- count stays below 2^32; the buffer can hold the longest record, and holds bytes that wait for more
pub record Ready (r : Run) (cells : List ℕ) : Type 0 where
  pub some : 1 ≤ voting_length r.replay.settings
  pub low : r.accepted * voting_length r.replay.settings ≤ r.replay.next
  pub room : longest_record r.replay.settings ≤ length cells
  pub inside : r.filled ≤ length cells
  pub waits : r.over ≡ false → Held (end_at r.replay.settings) (held r cells)

-- ---- one record at most

-- the text of a line
unfoldable pub text_of : Print → List ℕ
text_of Nothing = []
text_of (Epoch e) = epoch_line e.height e.fork
text_of (End e) = end_line e.accepted e.refusal

-- the bytes that are taken of a piece: no more than are missing of the record
abbrev pub taken : Run → List ℕ → List ℕ → List ℕ
taken r cells piece = take (missing (end_at r.replay.settings (held r cells))) piece

-- the record is not whole
abbrev pub waits_with : Run → (filled used : ℕ) → Took
waits_with r filled used =
    record { run = record { replay = r.replay; accepted = r.accepted; filled = filled; over = false }; used = used; print = Nothing }

-- nothing more is read
abbrev pub ended : Run → Run
ended r = record { replay = r.replay; accepted = r.accepted; filled = 0; over = true }

abbrev pub ends_by : Run → ℕ → ℕ → Took
ends_by r used n = record { run = ended r; used = used; print = End (record { accepted = r.accepted; refusal = n }) }

-- the count is a number of 32 bits
unfoldable pub after_replay : Run → (height used : ℕ) → Result Replay Rejection → Took
after_replay r height used (Ok s) =
    record {
      run = record { replay = s; accepted = (r.accepted + 1) % 2 ^ 32; filled = 0; over = false };
      used = used;
      print = Epoch (record { height = height; fork = s.table.fork });
    }
after_replay r height used (Err e) = ends_by r used (rejection_number e)

-- by what the bytes so far are, with those that were taken
unfoldable pub after_bytes : Run → List ℕ → ℕ → Result RecordPlace Unread → Took
after_bytes r bytes used (Ok p) = after_replay r p.height used (replay_of r.replay bytes)
after_bytes r bytes used (Err (Short k)) = waits_with r (length bytes) used
after_bytes r bytes used (Err Malformed) = ends_by r used (number RecordMalformed)

abbrev pub on_bytes : Run → List ℕ → ℕ → Took
on_bytes r bytes used = after_bytes r bytes used (record_at bytes (votes_size r.replay.settings))

-- after the end all bytes are taken, and nothing is printed
unfoldable pub took_of : Run → List ℕ → List ℕ → Took
took_of r cells piece =
    cond r.over (record { run = r; used = length piece; print = Nothing })
    (on_bytes r (held r cells ++ taken r cells piece) (length (taken r cells piece)))

unfoldable pub took_cells : Run → List ℕ → List ℕ → List ℕ
took_cells r cells piece =
    cond r.over cells (held r cells ++ taken r cells piece ++ drop (r.filled + length (taken r cells piece)) cells)

-- ---- the calls

-- what a call leaves: whether it passed, the run and its buffer, how many bytes of the piece were taken, and the text that was written
pub record After : Type 0 where
  pub check : Check
  pub run : Run
  pub cells : List ℕ
  pub used : ℕ
  pub text : List ℕ

-- nothing is taken, and nothing written
abbrev pub stands : Check → Run → List ℕ → After
stands c r cells = record { check = c; run = r; cells = cells; used = 0; text = [] }

-- after bytes that were taken and a text that was written before
unfoldable pub behind : ℕ → List ℕ → After → After
behind used text a = record { check = a.check; run = a.run; cells = a.cells; used = used + a.used; text = text ++ a.text }

-- records one after another, so many at most; none where the piece is used up, or where a line might find no room
unfoldable pub feed_by : ℕ → ℕ → Run → List ℕ → List ℕ → After
feed_by zero room r cells piece = stands passed r cells
feed_by (suc k) room r cells piece =
    cond (length piece == 0 || nat_lt room line_most) (stands passed r cells)
    (behind (took_of r cells piece).used (text_of (took_of r cells piece).print)
    (feed_by k (room - length (text_of (took_of r cells piece).print)) (took_of r cells piece).run (took_cells r cells piece) (drop (took_of r cells piece).used piece)))

-- a ready run takes a byte at least each time, so that as many as there are bytes are enough
unfoldable pub feed_of : Run → List ℕ → List ℕ → ℕ → After
feed_of r cells piece room = cond (too_short r (length cells) room) (stands (Err OutputShort) r cells) (feed_by (length piece) room r cells piece)

-- the last line; after the end there is no second one
unfoldable pub last_by : Run → List ℕ → ℕ → After
last_by r cells n = cond r.over (stands passed r cells) (record { check = passed; run = ended r; cells = cells; used = 0; text = end_line r.accepted n })

unfoldable pub last_of : Run → List ℕ → ℕ → ℕ → After
last_of r cells n room = cond (too_short r (length cells) room) (stands (Err OutputShort) r cells) (last_by r cells n)

-- the end of the input: one that stops inside a record is malformed
abbrev pub finish_of : Run → List ℕ → ℕ → After
finish_of r cells room = last_of r cells (cond (r.filled == 0) 0 (number RecordMalformed)) room

-- an input that can't be read on
abbrev pub fail_of : Run → List ℕ → ℕ → After
fail_of r cells room = last_of r cells (number RecordMalformed) room

-- what the code answers
abbrev pub fed_of : After → Result Fed Refusal
fed_of a = and_then a.check (λ _. Ok (record { run = a.run; used = a.used; wrote = length a.text }))

-- ---- what the calls mean

-- a piece that is handed to a ready run, with room for a line. It is not refused. It takes a byte at least; and all of them, or no further line
-- might find room. Nothing of what is to be printed is lost: the text, and what the run then prints for the rest of the input
pub record Feeds (r : Run) (cells piece : List ℕ) (room : ℕ) (a : After) : Type 0 where
  pub passes : a.check ≡ passed
  pub inside : a.used ≤ length piece
  pub moves : line_most ≤ room → 0 < length piece → 0 < a.used
  pub fits : length a.text ≤ room
  pub most : a.used < length piece → room < length a.text + line_most
  pub goes_on : (more : List ℕ) → ahead r cells (piece ++ more) ≡ a.text ++ ahead a.run a.cells (drop a.used piece ++ more)
  pub ready : Ready a.run a.cells

-- the end: all that is left to print is written, and the run is over
pub record Ends (r : Run) (cells : List ℕ) (room : ℕ) (a : After) : Type 0 where
  pub passes : a.check ≡ passed
  pub fits : length a.text ≤ room
  pub is-over : a.run.over ≡ true
  pub all : ahead r cells [] ≡ a.text
