-- Numbers as bytes, there and back: at every number of bytes, and for signed numbers of 32 bits.
-- Assumes nothing.
use Rattle.std.proofs.Common.{◌≡◌, ℕ, zero, suc, ◌+◌, ◌*◌, ◌/◌, ◌%◌, ◌^◌, ◌<◌, List, [], ◌∷◌, length, get_or, ℤ, sym, refl, ap, ◌∙◌, mod-eq_of_lt, pow-suc, div-one, arith, w32, SFits}
use native.Mathlib.Nat.{pow-succ', mul-add-div_right}
use lib.Arith.{mod-mul, digits_lt, digits_div}
use Rattle.std.specs.Int.{from_be_bytes, to_be_bytes}
use Rattle.codec.specs.BigEndian.{big_endian, big_endian_bytes}
use Rattle.codec.specs.Signed.{bits_of, signed_of}
use Rattle.codec.proofs.Laws.Lists.{elements, all-elements}
use Rattle.codec.proofs.Laws.Signed.{bits_back, bits_fit, signed_back}

pub bytes-length : (n x : ℕ) → length (big_endian_bytes n x) ≡ n
unfolding big_endian_bytes
bytes-length zero x = refl
bytes-length (suc n) x = ap suc (bytes-length n x)

positive : (n : ℕ) → 0 < 256 ^ n
positive zero = omega arith
positive (suc n) = let p = positive n in rw (pow-suc 256 n) (omega arith)

-- the n bytes of a number are its n low bytes
pub number-of-bytes : (n x : ℕ) → big_endian (big_endian_bytes n x) ≡ x % 256 ^ n
unfolding big_endian big_endian_bytes
number-of-bytes zero x = omega arith
number-of-bytes (suc n) x =
    rw (bytes-length n x, number-of-bytes n x, pow-succ' 256 n) (sym (mod-mul x {m = 256} {c = 256 ^ n} (omega arith) (positive n)))

-- bytes are a number that they can hold
pub bytes_small : (bs : List ℕ) → ((i : ℕ) → get_or bs i 0 < 256) → big_endian bs < 256 ^ length bs
unfolding big_endian
bytes_small [] h = omega arith
bytes_small (b ∷ bs) h = rw (pow-succ' 256 (length bs)) (digits_lt (h 0) (bytes_small bs (λ i. h (suc i))))

-- bytes that a number has above its n low ones do not matter
above : (n q x : ℕ) → big_endian_bytes n (q * 256 ^ n + x) ≡ big_endian_bytes n x
unfolding big_endian_bytes
above zero q x = refl
above (suc n) q x =
    let e : q * 256 ^ suc n + x ≡ q * 256 * 256 ^ n + x = rw (pow-succ' 256 n) (omega arith) in
    let d : (q * 256 + x / 256 ^ n) % 256 ≡ x / 256 ^ n % 256 = omega arith in
    rw (e, mul-add-div_right (positive n) (q * 256) x, above n (q * 256) x, d)

-- the bytes of the number that bytes are
pub bytes-of-number : (bs : List ℕ) → ((i : ℕ) → get_or bs i 0 < 256) → big_endian_bytes (length bs) (big_endian bs) ≡ bs
unfolding big_endian big_endian_bytes
bytes-of-number [] h = refl
bytes-of-number (b ∷ bs) h =
    let t : (i : ℕ) → get_or bs i 0 < 256 = λ i. h (suc i) in
    rw (digits_div b (bytes_small bs t), mod-eq_of_lt (h 0), above (length bs) b (big_endian bs), bytes-of-number bs t)

-- four bytes
pub four-small : (a b c d : ℕ) → a < 256 → b < 256 → c < 256 → d < 256 → (i : ℕ) → get_or (a ∷ b ∷ c ∷ d ∷ []) i 0 < 256
four-small a b c d ha hb hc hd zero = ha
four-small a b c d ha hb hc hd (suc zero) = hb
four-small a b c d ha hb hc hd (suc (suc zero)) = hc
four-small a b c d ha hb hc hd (suc (suc (suc zero))) = hd
four-small a b c d ha hb hc hd (suc (suc (suc (suc i)))) = omega arith

pub four_bytes_lem : (n : ℕ) → (n / 0x100_0000 % 256) ∷ (n / 0x1_0000 % 256) ∷ (n / 256 % 256) ∷ (n % 256) ∷ [] ≡ big_endian_bytes 4 n
unfolding big_endian_bytes
four_bytes_lem n = rw (div-one n)

-- a signed number of 32 bits there and back, and four bytes there and back
pub number-back : (x : ℤ) → SFits w32 x → signed_of 32 (big_endian (big_endian_bytes 4 (bits_of 32 x))) ≡ x
number-back x f =
    ap (signed_of 32) (number-of-bytes 4 (bits_of 32 x) ∙ mod-eq_of_lt (bits_fit w32 x f)) ∙ bits_back w32 x f

pub bytes_back : (bs : List ℕ) → length bs ≡ 4 → ((i : ℕ) → get_or bs i 0 < 256) → big_endian_bytes 4 (bits_of 32 (signed_of 32 (big_endian bs))) ≡ bs
bytes_back bs l h = ap (big_endian_bytes 4) (signed_back w32 (big_endian bs) (rw l at (bytes_small bs h))) ∙ (rw l at (bytes-of-number bs h))

-- std's words for both ways
pub from_bytes-is : (bs : List ℕ) → length bs ≡ 4 → from_be_bytes w32 bs ≡ big_endian bs
unfolding big_endian
from_bytes-is bs l = let q : from_be_bytes w32 bs ≡ big_endian (elements 4 0 bs) = omega arith in q ∙ ap big_endian (all-elements 4 bs l)

pub to_bytes-is : (n : ℕ) → to_be_bytes w32 n ≡ big_endian_bytes 4 n
to_bytes-is n = four_bytes_lem n
