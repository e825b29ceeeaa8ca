-- A window in cells: what its calls answer and leave, for every window and all cells. docs/RULES.md, "Support", "In cells".
-- Assumes nothing.
use Rattle.std.specs.Prelude.{Result, Ok, Err, is_err, ◌≡◌, true, ℕ, ◌+◌, ◌*◌, ◌%◌, cond, ◌&&◌, List, ◌++◌, length, drop, replicate, ◌==◌, nat_le, nat_lt, slice_index, slice_set}
use Rattle.codec.specs.declared.refusal.Refusal.TheVariants.{OutputShort, WindowLengthOutside}
use Rattle.std.specs.Result.{result_and}
use Rattle.codec.specs.declared.refusal.Refusal.{Refusal}
use Rattle.codec.specs.Check.{Check, passed}
use Rattle.voting.specs.Header.{check_header_votes}
use Rattle.support.specs.declared.window.Window.{Window}

-- the greatest length
abbrev pub length_most : ℕ
length_most = 4096

-- where the cells of a place begin: 256 supports stand before all places, three cells are a place; and how many cells a window of n places has
abbrev pub cell_of : ℕ → ℕ
cell_of place = 256 + 3 * place

-- an answer, and the cells that the call leaves
pub record Left : Type 0 where
  pub answer : Result Window Refusal
  pub cells : List ℕ

abbrev pub left : Result Window Refusal → List ℕ → Left
left a cells = record { answer = a; cells = cells }

-- 21 unless the length is in its range, the oldest's place in the window, and the window in the cells
unfoldable pub check_room : Window → ℕ → Check
check_room w room = cond (nat_lt w.oldest w.length && nat_le w.length length_most && nat_le (cell_of w.length) room) passed (Err OutputShort)

-- ---- a new window

-- a window without headers
abbrev pub empty : ℕ → Window
empty n = record { length = n; held = 0; oldest = 0 }

-- 33, then 21
unfoldable pub check_new : ℕ → ℕ → Check
check_new n room = result_and (cond (nat_le 1 n && nat_le n length_most) passed (Err WindowLengthOutside)) (check_room (empty n) room)

-- all its cells are 0; refused, the cells as they were
unfoldable pub new_by : Check → ℕ → List ℕ → Left
new_by (Ok _) n cells = left (Ok (empty n)) (replicate (cell_of n) 0 ++ drop (cell_of n) cells)
new_by (Err e) n cells = left (Err e) cells

unfoldable pub new_of : ℕ → List ℕ → Left
new_of n cells = new_by (check_new n (length cells)) n cells

-- the window that was made. Refused: one of length 0, which takes no header
unfoldable pub made : Result Window Refusal → Window
made (Ok w) = w
made (Err e) = empty 0

-- ---- a header is put

-- a number is added to the support of an id, in 16 bits; 0 is no vote
unfoldable pub added : List ℕ → ℕ → ℕ → List ℕ
added cells id n = cond (id == 0) cells (slice_set cells id ((slice_index cells id + n) % 65536))

-- one more and one less
abbrev pub one_more : ℕ
one_more = 1

abbrev pub one_less : ℕ
one_less = 65535

-- the byte in a cell leaves, which is what the cell holds modulo 256, and another takes its place
unfoldable pub replaced : List ℕ → ℕ → ℕ → List ℕ
replaced cells at id = added (slice_set (added cells (slice_index cells at % 256) one_less) at id) id one_more

-- a header's three bytes, one after another
unfoldable pub entered : List ℕ → ℕ → List ℕ → List ℕ
entered cells at votes = replaced (replaced (replaced cells at (slice_index votes 0)) (at + 1) (slice_index votes 1)) (at + 2) (slice_index votes 2)

-- one header more is held, up to the length
unfoldable pub more_held : ℕ → ℕ → ℕ
more_held held n = cond (nat_lt held n) (held + 1) held

-- the place after a place; after the last the first
unfoldable pub place_after : ℕ → ℕ → ℕ
place_after place n = cond (place + 1 == n) 0 (place + 1)

unfoldable pub onward : Window → Window
onward w = record { length = w.length; held = more_held w.held w.length; oldest = place_after w.oldest w.length }

-- 9, 10 or 11, then 21
unfoldable pub check_put : Window → ℕ → List ℕ → Check
check_put w room votes = result_and (check_header_votes votes) (check_room w room)

-- the header takes the oldest's place; refused, nothing changes
unfoldable pub put_by : Check → Window → List ℕ → List ℕ → Left
put_by (Ok _) w cells votes = left (Ok (onward w)) (entered cells (cell_of w.oldest) votes)
put_by (Err e) w cells votes = left (Err e) cells

unfoldable pub put_of : Window → List ℕ → List ℕ → Left
put_of w cells votes = put_by (check_put w (length cells) votes) w cells votes

-- a window that takes no header: each put is refused
abbrev pub Closed : Window → Type 0
Closed w = (cells votes : List ℕ) → is_err (put_of w cells votes).answer ≡ true
