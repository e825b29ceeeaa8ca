-- What private writers into a buffer did. Assumes nothing.
use Rattle.std.specs.Prelude.{◌≡◌, ℕ, ◌+◌, ◌≤◌, List, ◌++◌, length, take, drop}
use Rattle.stream.specs.Lines.{line_most}

-- the text stands behind what stood before a position, the rest is as it was, and the next position is known
pub record Added (text : List ℕ) (at next : ℕ) (before after : List ℕ) : Type 0 where
  pub is : after ≡ take at before ++ (text ++ drop (at + length text) before)
  pub ends : next ≡ at + length text
  pub small : length text ≤ line_most
