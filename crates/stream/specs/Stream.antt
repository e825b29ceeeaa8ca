-- What is printed for an input of records. docs/RULES.md, "Replay".
-- The definitions are over any reading of a record's end, any state and any step.
-- Assumes nothing.
use Rattle.std.specs.Prelude.{◌≡◌, ℕ, zero, suc, ◌+◌, List, [], ◌∷◌, ◌++◌, length, take, drop}
use Rattle.codec.specs.declared.refusal.Refusal.TheVariants.{RecordMalformed}
use Rattle.codec.specs.Refusal.{number}
use Rattle.stream.specs.Lines.{head_line, end_line}

-- the record that bytes begin with: it is whole and ends there; it ends there, with the bytes, unless a further field follows; at least so many
-- bytes are missing; or it is malformed, whatever follows
pub data At : Type 0 where
  whole : ℕ → At
  unless : ℕ → At
  short : ℕ → At
  malformed : At

-- what a record does: the next state and the line that is printed of it, or a refusal's number
pub data Step (S : Type 0) : Type 0 where
  goes : S → List ℕ → Step S
  stops : ℕ → Step S

-- n epochs were accepted before. A refused one prints no line of its own and ends the reading
unfoldable pub after_step : {S : Type 0} → Step S → ℕ → (S → ℕ → List ℕ → List ℕ) → List ℕ → List ℕ
after_step (goes s line) n rest input = line ++ rest s (n + 1) input
after_step (stops e) n rest input = end_line n e

module _ {S : Type 0} (at : List ℕ → At) (step : S → List ℕ → Step S) where
  -- the record that the input begins with, and then the rest of the input; an input that stops inside a record is malformed
  unfoldable pub after_at : At → S → ℕ → (S → ℕ → List ℕ → List ℕ) → List ℕ → List ℕ
  after_at (whole e) s n rest input = after_step (step s (take e input)) n rest (drop e input)
  after_at (unless e) s n rest input = after_step (step s (take e input)) n rest (drop e input)
  after_at (short k) s n rest input = end_line n (number RecordMalformed)
  after_at malformed s n rest input = end_line n (number RecordMalformed)

  -- what is printed for the input from here on. Every record has bytes, so that with a number above the input's length the first line is
  -- never met
  unfoldable pub printed_from : ℕ → S → ℕ → List ℕ → List ℕ
  printed_from zero s n input = []
  printed_from (suc k) s n [] = end_line n 0
  printed_from (suc k) s n (b ∷ input) = after_at (at (b ∷ input)) s n (printed_from k) (b ∷ input)

  abbrev pub printed_after : S → ℕ → List ℕ → List ℕ
  printed_after s n input = printed_from (suc (length input)) s n input

  -- the whole output
  unfoldable pub printed : S → List ℕ → List ℕ
  printed s input = head_line ++ printed_after s 0 input

-- at least how many bytes are to be seen, to know more of the record
unfoldable pub missing : At → ℕ
missing (whole e) = 0
missing (unless e) = 1
missing (short k) = k
missing malformed = 0

-- bytes that wait for more: the record is not whole, or it is unless a further field follows
pub data Held (at : List ℕ → At) (bytes : List ℕ) : Type 0 where
  of-short : (k : ℕ) → short k ≡ at bytes → Held at bytes
  of-unless : (e : ℕ) → unless e ≡ at bytes → Held at bytes

unfoldable pub joined : List (List ℕ) → List ℕ
joined [] = []
joined (piece ∷ pieces) = piece ++ joined pieces
