-- Numbers as bytes, the most significant first. docs/RULES.md, "Signed numbers".
-- Assumes nothing.
use Rattle.std.specs.Prelude.{ℕ, zero, suc, ◌+◌, ◌*◌, ◌/◌, ◌%◌, ◌^◌, List, [], ◌∷◌, length}

-- the number that bytes are
unfoldable pub big_endian : List ℕ → ℕ
big_endian [] = 0
big_endian (b ∷ bs) = b * 256 ^ length bs + big_endian bs

-- the n low bytes of a number
unfoldable pub big_endian_bytes : ℕ → ℕ → List ℕ
big_endian_bytes zero x = []
big_endian_bytes (suc n) x = (x / 256 ^ n % 256) ∷ big_endian_bytes n x
