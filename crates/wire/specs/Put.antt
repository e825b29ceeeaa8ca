-- What the private writers and readers at a position say, and when a writer wrote. Assumes nothing.
use Rattle.std.specs.Prelude.{Result, IsOk, ℕ, ◌+◌, ◌<◌, ◌≡◌, List, length, get_or}
use Rattle.std.proofs.lemmas.List.Edits.{sets}
use Rattle.codec.specs.declared.refusal.Refusal.{Refusal}

-- a piece of so many bytes was stored from a position on, and no other cell changed; what reaches past the end is dropped
pub record Put (size at : ℕ) (piece before after : List ℕ) : Type 0 where
  pub is : after ≡ sets before at piece
  pub long : length piece ≡ size

-- a piece stands in bytes at a position
pub record Stands (bytes : List ℕ) (at : ℕ) (piece : List ℕ) : Type 0 where
  pub here : (k : ℕ) → k < length piece → get_or bytes (at + k) 0 ≡ get_or piece k 0

-- wherever the bytes of x stand, x is read
abbrev pub Back : {X : Type 0} → (List ℕ → ℕ → X) → List ℕ → X → Type 0
Back read_at piece x = (bytes : List ℕ) (at : ℕ) → Stands bytes at piece → read_at bytes at ≡ x

-- a writer was not refused
abbrev pub Written : Result ℕ Refusal → Type 0
Written = IsOk
