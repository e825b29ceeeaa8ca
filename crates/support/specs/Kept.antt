-- What a new window promises of every list of headers: support counted afresh. docs/RULES.md, "Support".
-- Assumes nothing.
use Rattle.std.specs.Prelude.{◌≡◌, ℕ, ◌<◌, List, [], ◌∷◌, length, slice_index, Ok}
use Rattle.std.specs.Result.{result_unwrap_or}
use Rattle.voting.specs.Common.{Each}
use Rattle.support.specs.declared.window.Window.{Window}
use Rattle.support.specs.Support.{IsHeader, accepted, last, support}
use Rattle.support.specs.Window.{Left, put_of}

-- a window, and the cells that go with it
pub record Held : Type 0 where
  pub window : Window
  pub cells : List ℕ

-- what a caller has after a call: the window that was answered, the one before where the call was refused; and the cells that it left
abbrev pub keeps : Window → Left → Held
keeps w x = record { window = result_unwrap_or x.answer w; cells = x.cells }

-- after a list of headers, each put into the window and the cells that the call before left
unfoldable pub after : Held → List (List ℕ) → Held
after h [] = h
after h (votes ∷ headers) = after (keeps h.window (put_of h.window h.cells votes)) headers

-- the first 256 cells are the support of each byte, and the window says how many headers that is counted over
pub record Kept (n : ℕ) (headers : List (List ℕ)) (h : Held) : Type 0 where
  pub supports : (id : ℕ) → id < 256 → slice_index h.cells id ≡ support n headers id
  pub held : h.window.held ≡ length (last n (accepted headers))

-- so it is after every list of headers, refused ones included, if the window was not refused itself
abbrev pub SupportKept : ℕ → Left → Type 0
SupportKept n x =
    (w : Window) → x.answer ≡ Ok w → (headers : List (List ℕ)) → Each IsHeader headers
    → Kept n headers (after (record { window = w; cells = x.cells }) headers)
