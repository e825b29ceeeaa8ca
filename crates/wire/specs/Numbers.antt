-- Numbers in bytes, at a position. A byte past the end counts as 0. docs/VECTORS.md, "Bytes".
-- Assumes nothing.
use Rattle.std.specs.Prelude.{ℕ, zero, suc, ◌+◌, List, [], ◌∷◌, ◌++◌, get_or}
use Rattle.codec.specs.BigEndian.{big_endian, big_endian_bytes}

-- so many bytes
unfoldable pub bytes_at : ℕ → List ℕ → ℕ → List ℕ
bytes_at zero bytes at = []
bytes_at (suc n) bytes at = get_or bytes at 0 ∷ bytes_at n bytes (at + 1)

-- a number: four bytes, the most significant first; of a larger number its 32 low bits are written
unfoldable pub number_at : List ℕ → ℕ → ℕ
number_at bytes at = big_endian (get_or bytes at 0 ∷ get_or bytes (at + 1) 0 ∷ get_or bytes (at + 2) 0 ∷ get_or bytes (at + 3) 0 ∷ [])

unfoldable pub number_bytes : ℕ → List ℕ
number_bytes n = big_endian_bytes 4 n

-- the three vote bytes of a header
abbrev pub votes_at : List ℕ → ℕ → List ℕ
votes_at bytes at = get_or bytes at 0 ∷ get_or bytes (at + 1) 0 ∷ get_or bytes (at + 2) 0 ∷ []

-- four numbers, one after another
unfoldable pub four_bytes : (a b c d : ℕ) → List ℕ
four_bytes a b c d = number_bytes a ++ number_bytes b ++ number_bytes c ++ number_bytes d
