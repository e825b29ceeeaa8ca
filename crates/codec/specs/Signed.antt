-- Signed numbers in two's complement, over the number of bits. docs/RULES.md, "Signed numbers".
-- Assumes nothing.
use Rattle.std.specs.Prelude.{ℕ, suc, ◌-◌, ◌%◌, ◌^◌, cond, ℤ, pos, negsuc, nat_lt}

-- z modulo m, from 0 to m - 1 (negsuc n is -(n + 1))
unfoldable pub modulo : ℕ → ℤ → ℕ
modulo m (pos n) = n % m
modulo m (negsuc n) = m - suc (n % m)

-- the k low bits of z, as a natural number
unfoldable pub bits_of : ℕ → ℤ → ℕ
bits_of k z = modulo (2 ^ k) z

-- k bits read as a signed number
unfoldable pub signed_of : ℕ → ℕ → ℤ
signed_of k n = cond (nat_lt n (2 ^ (k - 1))) (pos n) (negsuc (2 ^ k - suc n))

-- z wrapped to a signed number of k bits
unfoldable pub wrapped : ℕ → ℤ → ℤ
wrapped k z = signed_of k (bits_of k z)
