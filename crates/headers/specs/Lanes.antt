-- The shape of the code, which need not be believed: which header of sixteen a lane holds, and what the functions of `lanes` say of it.
-- Assumes nothing.
use Rattle.std.specs.Prelude.{ℕ, zero, suc, ◌+◌, ◌*◌, ◌%◌, ◌<◌, ◌≡◌, List, [], ◌∷◌, get_or}
use Rattle.codec.specs.Check.{passed}
use Rattle.voting.specs.Header.{check_header_votes}

-- the header whose bytes begin at a position is legal
abbrev pub Legal : List ℕ → ℕ → Type 0
Legal s at = check_header_votes (get_or s at 0 ∷ get_or s (at + 1) 0 ∷ get_or s (at + 2) 0 ∷ []) ≡ passed

-- so is the one that three masks choose
pub record Lane (s : List ℕ) (at m n o : ℕ) : Type 0 where
  pub first : m ≡ 255 → n ≡ 0 → o ≡ 0 → Legal s at
  pub second : m ≡ 0 → n ≡ 255 → o ≡ 0 → Legal s (at + 16)
  pub third : m ≡ 0 → n ≡ 0 → o ≡ 255 → Legal s (at + 32)

-- where the header of a lane begins: at byte l, l + 16 or l + 32, whichever 3 divides
abbrev pub turns : ℕ → ℕ
turns zero = 0
turns (suc zero) = 2
turns (suc (suc k)) = 1

abbrev pub place : ℕ → ℕ
place l = l + 16 * turns (l % 3)

-- the headers of all sixteen lanes are legal
abbrev pub LegalBlock : List ℕ → ℕ → Type 0
LegalBlock s at = (l : ℕ) → l < 16 → Legal s (at + place l)

-- so are the first n headers
abbrev pub LegalBelow : List ℕ → ℕ → Type 0
LegalBelow s n = (i : ℕ) → i < n → Legal s (3 * i)
