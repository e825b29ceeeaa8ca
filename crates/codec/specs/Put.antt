-- What private writers into a buffer did. Assumes nothing.
use Rattle.std.specs.Prelude.{◌≡◌, ℕ, ◌+◌, ◌≤◌, List, length}
use Rattle.std.proofs.lemmas.List.Edits.{sets}

-- the text stands from a position on, and the position after it is known to be small
pub record Put (text : List ℕ) (most at next : ℕ) (before after : List ℕ) : Type 0 where
  pub is : after ≡ sets before at text
  pub ends : next ≡ at + length text
  pub small : next ≤ at + most
