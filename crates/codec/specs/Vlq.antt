-- Numbers of variable length (VLQ): seven bits a byte, low first, the high bit continues. docs/RULES.md, "Settings update".
-- Assumes nothing.
use Rattle.std.specs.Prelude.{◌≡◌, ℕ, zero, suc, ◌+◌, ◌*◌, ◌/◌, ◌%◌, ◌^◌, ◌<◌, ◌≤◌, Bool, true, false, cond, List, [], ◌∷◌, ◌++◌, length, drop, nat_lt, Option, Some, None}
use Rattle.codec.specs.declared.vlq.Number.{Number}

-- what bytes begin with: a number and how many bytes it takes, or no number
pub data Found : Type 0 where
  found : ℕ → ℕ → Found
  unreadable : Found

-- a byte that continues, before the rest of its number
unfoldable pub continued : ℕ → Found → Found
continued b (found v n) = found (b % 128 + 128 * v) (suc n)
continued b unreadable = unreadable

-- a byte, and what the bytes after it begin with
unfoldable pub byte : Bool → ℕ → Found → Found
byte true b rest = found b 1
byte false b rest = continued b rest

-- the number that the bytes begin with, of at most n bytes, with all its bits
unfoldable pub number_of : ℕ → List ℕ → Found
number_of zero s = unreadable
number_of (suc n) [] = unreadable
number_of (suc n) (b ∷ s) = byte (nat_lt b 128) b (number_of n s)

-- bits from 64 up are dropped
unfoldable pub low64 : Found → Found
low64 (found v n) = found (v % 2 ^ 64) n
low64 unreadable = unreadable

-- a number from the limit up is unreadable
unfoldable pub below : ℕ → Found → Found
below limit (found v n) = cond (nat_lt v limit) (found v n) unreadable
below limit unreadable = unreadable

-- the number of the named width that the bytes begin with
unfoldable pub vlq_of : ℕ → List ℕ → Found
vlq_of width s = below (2 ^ width) (low64 (number_of 10 s))

-- what is answered for bytes that stand at a position: the value, and the position after its bytes
unfoldable pub placed : ℕ → Found → Option Number
placed at (found v n) = Some (record { value = v; next = at + n })
placed at unreadable = None

-- the number of the named width at a position
unfoldable pub vlq_at : ℕ → List ℕ → ℕ → Option Number
vlq_at width s at = placed at (vlq_of width (drop at s))

-- the number in shortest form, of at most n bytes
unfoldable pub shortest_of : ℕ → ℕ → List ℕ
shortest_of zero x = []
shortest_of (suc n) x = cond (nat_lt x 128) (x ∷ []) ((128 + x % 128) ∷ shortest_of n (x / 128))

-- ten bytes hold every number of 64 bits
unfoldable pub vlq_bytes : ℕ → List ℕ
vlq_bytes x = shortest_of 10 x

-- what the shortest form of x promises, at every width: followed by any bytes it is read back, with the number of its bytes;
-- and no bytes from which x is read are fewer
pub record Shortest (x : ℕ) : Type 0 where
  pub reads-back : (width : ℕ) (after : List ℕ) → width ≤ 64 → x < 2 ^ width → vlq_of width (vlq_bytes x ++ after) ≡ found x (length (vlq_bytes x))
  pub least : (width n : ℕ) (s : List ℕ) → vlq_of width s ≡ found x n → length (vlq_bytes x) ≤ n
