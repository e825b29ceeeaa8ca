-- A window through the library: as a number, and what calls one after another promise. docs/RULES.md, "Support"; docs/VECTORS.md, "Bytes".
-- Assumes nothing.
use Rattle.std.specs.Prelude.{Result, ℕ, ◌+◌, ◌*◌, ◌/◌, ◌%◌, ◌<◌, ◌^◌, cond, List, [], ◌∷◌, ltb}
use Rattle.voting.specs.Common.{Each, Bytes}
use Rattle.support.specs.declared.window.Window.{Window}
use Rattle.codec.specs.declared.refusal.Refusal.{Refusal}
use Rattle.support.specs.Window.{Left, put_of}
use Rattle.support.specs.Kept.{Held, Kept}
use Rattle.wire.specs.Numbers.{votes_at}
use Rattle.exports.specs.Reply.{Reply, reply, minus, answer_of}

-- a window as a number: its length, how many headers it holds and the oldest's place, 16 bits each, the first highest
unfoldable pub window_number : Window → ℕ
window_number w = w.length * 2 ^ 32 + w.held * 2 ^ 16 + w.oldest

-- the window of a number; bits from 48 up are not looked at
unfoldable pub window_at : ℕ → Window
window_at n = record { length = n / 2 ^ 32 % 2 ^ 16; held = n / 2 ^ 16 % 2 ^ 16; oldest = n % 2 ^ 16 }

-- the window's number, or minus the refusal's
abbrev pub window_answer : Result Window Refusal → ℕ
window_answer = answer_of window_number minus

unfoldable pub window_reply : Left → Reply
window_reply x = reply (window_answer x.answer) x.cells

-- ---- calls one after another

-- an answer below 2^63 is the window for the next call; any other is below 0 as a signed number, and the caller keeps the one before
unfoldable pub keeping : ℕ → Reply → Reply
keeping w (reply r cells) = reply (cond (ltb r (2 ^ 63)) r w) cells

-- after a list of headers, each put into the window and the cells that a caller then has
unfoldable pub put_on : Reply → List (List ℕ) → Reply
put_on x [] = x
put_on (reply w cells) (votes ∷ headers) = put_on (keeping w (window_reply (put_of (window_at w) cells (votes_at votes 0)))) headers

-- the three vote bytes that each is read as
unfoldable pub votes_of_each : List (List ℕ) → List (List ℕ)
votes_of_each [] = []
votes_of_each (votes ∷ headers) = votes_at votes 0 ∷ votes_of_each headers

-- the window of that number, with the cells
unfoldable pub number_window : Reply → Held
number_window (reply w cells) = record { window = window_at w; cells = cells }

-- after every list of byte strings, refused ones included, the cells and the window have the support counted afresh, if the window was not refused
-- itself
abbrev pub KeptThrough : ℕ → ℕ → List ℕ → Type 0
KeptThrough n w cells =
    w < 2 ^ 63 → (headers : List (List ℕ)) → Each Bytes headers → Kept n (votes_of_each headers) (number_window (put_on (reply w cells) headers))
