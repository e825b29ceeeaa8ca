-- Every legal number in print, and the same in pieces. docs/RULES.md, "Every legal header".
-- Assumes nothing.
use Rattle.std.specs.Prelude.{Result, Ok, Err, ℕ, ◌-◌, ◌≤◌, ◌<◌, ◌≡◌, cond, List, [], ◌∷◌, ◌++◌, ltb, leb, length, Option, Some, None}
use Rattle.codec.specs.declared.refusal.Refusal.TheVariants.{OutputShort}
use Rattle.codec.specs.declared.refusal.Refusal.{Refusal}
use Rattle.codec.specs.Decimal.{digits, newline}
use Rattle.legal.specs.declared.next.Votes.{Votes}
use Rattle.legal.specs.declared.listing.Filled.{Filled}
use Rattle.legal.specs.Legal.{number, kept, all_legal, first_of}

-- a number a line
unfoldable pub line_of : ℕ → List ℕ
line_of n = digits 10 n ++ newline

unfoldable pub lines_of : List ℕ → List ℕ
lines_of [] = []
lines_of (n ∷ ns) = line_of n ++ lines_of ns

-- the listing
unfoldable pub listing : List ℕ
listing = lines_of all_legal

-- the longest line: eight digits and the newline
abbrev pub line_most : ℕ
line_most = 9

-- ---- a piece

-- the legal numbers from a position on: three bytes, legal or not, or the end
unfoldable pub rest_of : Option Votes → List ℕ
rest_of None = []
rest_of (Some v) = kept (leb (number v.0 v.1 v.2)) all_legal

-- the numbers whose lines are put, as long as the longest line has room; and those that are left
unfoldable pub fitting : ℕ → List ℕ → List ℕ
fitting room [] = []
fitting room (n ∷ ns) = cond (ltb room line_most) [] (n ∷ fitting (room - length (line_of n)) ns)

unfoldable pub left_over : ℕ → List ℕ → List ℕ
left_over room [] = []
left_over room (n ∷ ns) = cond (ltb room line_most) (n ∷ ns) (left_over (room - length (line_of n)) ns)

-- the text that is put into a buffer of a length, from a position on
unfoldable pub text_of : Option Votes → ℕ → List ℕ
text_of at room = lines_of (fitting room (rest_of at))

-- the position after it; the same one where a line might find no room, which is 21
unfoldable pub next_of : Option Votes → ℕ → Option Votes
next_of at room = cond (ltb room line_most) at (first_of (left_over room (rest_of at)))

unfoldable pub fill_of : Option Votes → ℕ → Result Filled Refusal
fill_of at room = cond (ltb room line_most) (Err OutputShort) (Ok (record { next = next_of at room; wrote = length (text_of at room) }))

-- ---- pieces one after another

-- the texts of calls with buffers of these lengths, joined; and the position after them
unfoldable pub pieces : Option Votes → List ℕ → List ℕ
pieces at [] = []
pieces at (room ∷ rooms) = text_of at room ++ pieces (next_of at room) rooms

unfoldable pub reached : Option Votes → List ℕ → Option Votes
reached at [] = at
reached at (room ∷ rooms) = reached (next_of at room) rooms

-- Whatever the lengths: the pieces, and the lines from the position reached on, are the listing. Where the end is reached, the pieces are.
pub record Pieces (begin : Option Votes) : Type 0 where
  pub so_far : (rooms : List ℕ) → pieces begin rooms ++ lines_of (rest_of (reached begin rooms)) ≡ listing
  pub whole : (rooms : List ℕ) → reached begin rooms ≡ None → pieces begin rooms ≡ listing

-- a call whose buffer is long enough reaches the end, or leaves fewer numbers
abbrev pub GoesOn : Option Votes → ℕ → Type 0
GoesOn at room = line_most ≤ room → (next_of at room ≡ None → ⊥) → length (rest_of (next_of at room)) < length (rest_of at)
