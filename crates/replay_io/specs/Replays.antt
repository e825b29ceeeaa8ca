-- What is read from one descriptor and handed to another. docs/RULES.md, "Replay".
-- Assumes nothing.
use Rattle.std.specs.Prelude.{None, ℕ, ◌+◌, ◌-◌, ◌^◌, ◌≤◌, ◌≡◌, Bool, true, false, List, [], ◌++◌, length, drop, Option}
use Rattle.std.specs.Io.KnownBytes.{Appends}
use Rattle.codec.specs.declared.refusal.Refusal.TheVariants.{RecordMalformed}
use Rattle.codec.specs.Refusal.{number}
use Rattle.ports.specs.declared.Input.{Input}
use Rattle.ports.specs.declared.Output.{Output}
use Rattle.ports.specs.Ports.{unread, unwritten, read, ended, broken, wrote, sent}
use Rattle.stream.specs.declared.run.Run.{Run}
use Rattle.stream.specs.Lines.{end_line}
use Rattle.stream.specs.Run.{ahead, Ready}
use Rattle.stream.specs.Driven.{replay_prints}
use Rattle.replay_io.specs.declared.Done.{Done}

-- ---- the promise

-- a beginning of what is printed
pub record Begun (input text : List ℕ) : Type 0 where
  pub rest : List ℕ
  pub is : replay_prints input ≡ text ++ rest

-- the lines so far, and the last line by 25 where the input that was read would end with this number of epochs and this refusal
pub record Broken (input text : List ℕ) : Type 0 where
  pub lines : List ℕ
  pub accepted : ℕ
  pub refusal : ℕ
  pub before : replay_prints input ≡ lines ++ end_line accepted refusal
  pub is : text ≡ lines ++ end_line accepted (number RecordMalformed)

-- how the input ended, by what the call says of it
abbrev pub input_by : (failed at_end : Bool) → Input → Input
input_by true at_end i = broken i
input_by false true i = ended i
input_by false false i = i

-- The bytes that were read, and the text that was handed over; that the end was met, that a read or a write failed, is what `ports` said.
-- Whatever follows the bytes in the input, nothing if its end was met: where every read and every write succeeded, the text is what is printed;
-- where a write failed, the text up to and with that write is a beginning of it, without a gap. Where a read failed, the lines so far, and the
-- last line by 25. An input of 2^64 − 1 bytes or more may be left unread, without a last line. A refused call reads nothing and hands nothing over.
pub record Replays (from to : ℕ) (d : Done) : Type 0 where
  pub bytes : List ℕ
  pub text : List ℕ
  pub is-input : d.input ≡ input_by d.read_failed d.ended (read (unread from) bytes)
  pub is-output : d.output ≡ sent d.write_failed (wrote (unwritten to) text)
  pub whole : d.refusal ≡ None → d.read_failed ≡ false → d.write_failed ≡ false → d.too_long ≡ false
      → (more : List ℕ) → (d.ended ≡ true → more ≡ []) → text ≡ replay_prints (bytes ++ more)
  pub begun : d.read_failed ≡ false → (more : List ℕ) → (d.ended ≡ true → more ≡ []) → Begun (bytes ++ more) text
  pub broke : d.read_failed ≡ true → Broken bytes text
  pub long : d.too_long ≡ true → 2 ^ 64 - 1 ≤ length bytes
  pub refused : (d.refusal ≡ None → ⊥) → (bytes ≡ []) × (text ≡ [])

-- The same of a reader and a writer: what is told of the bytes that the reader gave; of the text that the writer took, where no write failed; and
-- of the reader where its end was met.
pub record Moves (given taken : List ℕ → Type 0) (at_end : Type 0) (from to : ℕ) (d : Done) : Type 0 where
  pub replays : Replays from to d
  pub gave : given replays.bytes
  pub took : d.write_failed ≡ false → taken replays.text
  pub ends : d.ended ≡ true → at_end

-- nothing was read, and nothing handed over
abbrev pub IsEmpty : List ℕ → Type 0
IsEmpty l = l ≡ []

-- ---- on the way

-- the writer held a beginning in the end, and then a text that begins with it
abbrev pub GoesOn : (start : List ℕ) → (old new : Option (List ℕ)) → List ℕ → Type 0
GoesOn start old new text = (before : Option (List ℕ)) → Appends before old start → Appends before new text

-- no read and no write is of more bytes
abbrev pub most : ℕ
most = 65536

-- a piece was fed up to a position: its lines were handed over, the last of them by a write that failed or not, and nothing of what is to be
-- printed is lost
pub record Feeding (taken : List ℕ → Type 0) (run : Run) (cells piece : List ℕ) (output : Output) (at : ℕ) (run' : Run) (cells' : List ℕ) (failed : Bool) (output' : Output) : Type 0 where
  pub text : List ℕ
  pub is : (to : ℕ) (before : List ℕ) → output ≡ wrote (unwritten to) before → output' ≡ sent failed (wrote (unwritten to) (before ++ text))
  pub goes_on : (more : List ℕ) → ahead run cells (piece ++ more) ≡ text ++ ahead run' cells' (drop at piece ++ more)
  pub ready : Ready run' cells'
  pub took : failed ≡ false → taken text

-- between two pieces, with so many reads left, each of which brings a byte at least: the run is not over; the text that was handed over, and
-- what the run prints from here on, are what is printed
pub record Reading (given taken : List ℕ → Type 0) (from to left : ℕ) (run : Run) (cells : List ℕ) (input : Input) (output : Output) : Type 0 where
  pub bytes : List ℕ
  pub text : List ℕ
  pub is-input : input ≡ read (unread from) bytes
  pub is-output : output ≡ wrote (unwritten to) text
  pub goes_on : (more : List ℕ) → replay_prints (bytes ++ more) ≡ text ++ ahead run cells more
  pub ready : Ready run cells
  pub on : run.over ≡ false
  pub counted : 2 ^ 64 - 1 ≤ left + length bytes
  pub gave : given bytes
  pub took : taken text
