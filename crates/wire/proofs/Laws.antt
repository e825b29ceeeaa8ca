-- Pieces one after another: how stores join, how slots are put, and how slots and the bytes of an id are read. Assumes nothing.
use mathlib.Core.Path.{◌≡◌, refl, sym, ap, subst, ◌∙◌}
use mathlib.Core.List.{List, [], ◌∷◌, ◌++◌, map, append-nil}
use Prim.Native.Nat.{ℕ, zero, suc, ◌+◌, ◌*◌, ◌/◌, ◌%◌, ◌≤◌, ◌<◌}
use native.Mathlib.Numerals.{add-one}
use native.Mathlib.Omega.{arith}
use lib.Dec.{eqb}
use lib.IntN.{ℤ}
use lib.ListN.{length, get_or, drop, set, length-append, drop_of_length-le}
use lib.Seq.{sets, sets-eq, drop-cons}
use borrow.Author.Tests.{eqb-true, eqb-false, ne_eqb}
use denote.Param.Members.{Mut, Called}
use Rattle.std.specs.Bool.{then_some}
use mathlib.Core.Bool.{not}
use mir.Syntax.{Width}
use mir.Val.{SFits, bits, to_z, of_z}
use mir.ValLaws.{to_z-of_z}
use Rattle.codec.proofs.Laws.Signed.{of_z-is, to_z-is}
use Rattle.std.specs.Int.{w32, to_be_bytes, from_be_bytes}
use Rattle.codec.specs.BigEndian.{big_endian}
use Rattle.std.specs.Array.{IsFromFnResult, IsFromFnResultFrom}
use Rattle.std.specs.List.{range_with_len}
use Rattle.std.proofs.lemmas.List.FromFn.{fill_by_all}
use Rattle.voting.proofs.Laws.Tests.{by-test}
use Rattle.codec.specs.Output.{Outcome, writes}
use Rattle.codec.specs.Signed.{bits_of, signed_of}
use Rattle.codec.proofs.Laws.BigEndian.{bytes-length, four_bytes_lem}
use Rattle.codec.proofs.Laws.Output.{sets-append}
use Rattle.voting.specs.Value.{Value}
use Rattle.std.specs.Prelude.{None, Some}
use Rattle.voting.specs.declared.tally.Entry.{Entry}
use Rattle.wire.specs.Put.{Put}
use Rattle.wire.specs.Numbers.{bytes_at, number_bytes, number_at, four_bytes}
use Rattle.wire.specs.Values.{marked, value_bytes, value_of, value_at, slots_bytes, slots_at, entry_bytes}

-- a piece, and what is put behind it; and another piece behind it
pub behind : {a d d' : List ℕ} {n at : ℕ} → Put n at a d d' → (b : List ℕ) → sets d' (at + n) b ≡ sets d at (a ++ b)
behind {a} {d} {at = at} p b = rw (p.is, ← p.long) (sym (sets-append a b d at))

pub joined : {a b d d' d'' : List ℕ} {n m at : ℕ} → Put n at a d d' → Put m (at + n) b d' d'' → Put (n + m) at (a ++ b) d d''
joined {a} {b} p q = record { is = q.is ∙ behind p b; long = rw (length-append a b, p.long, q.long) }

-- the same piece by another name
pub renamed : {a b d d' : List ℕ} {n at : ℕ} → a ≡ b → Put n at a d d' → Put n at b d d'
renamed e p = rw (← e) p

-- four bytes, and a byte before them
pub number_put : (n : ℕ) {b d d' : List ℕ} {at : ℕ} → b ≡ to_be_bytes w32 n → d' ≡ sets d at b → Put 4 at (number_bytes n) d d'
unfolding number_bytes
number_put n {d = d} {at = at} p e = record { is = e ∙ ap (sets d at) (p ∙ four_bytes_lem n); long = bytes-length 4 n }

pub mark-put : (mark n : ℕ) {d d' d'' : List ℕ} {at : ℕ} → d' ≡ set d at mark → Put 4 (at + 1) (number_bytes n) d' d'' → Put 5 at (marked mark n) d d''
unfolding marked
mark-put mark n {at = at} e p = record { is = p.is ∙ rw (e, add-one at); long = ap suc p.long }

-- a value's bytes
pub absent-bytes : (v : Value) → v ≡ None → marked 0 0 ≡ value_bytes v
unfolding value_bytes
absent-bytes v e = rw e

pub number-bytes : (v : Value) (z : ℤ) (b : ℕ) → v ≡ Some z → b ≡ bits_of 32 z → marked 1 b ≡ value_bytes v
unfolding value_bytes
number-bytes v z b e q = rw (e, q)

-- the bits of a signed argument, as std has them; and bits read as a signed number
pub bits-are : (w : Width) (z : ℤ) → SFits w z → {n : ℕ} → n ≡ of_z w (to_z w (of_z w z)) → n ≡ bits_of (bits w) z
bits-are w z f e = e ∙ ap (of_z w) (to_z-of_z w z f) ∙ of_z-is w z f

pub signed_is : (w : Width) (z : ℤ) → SFits w z → (n : ℕ) → z ≡ to_z w n → to_z w (of_z w z) ≡ signed_of (bits w) n
signed_is w z f n e = to_z-of_z w z f ∙ e ∙ to_z-is w n

-- a value read
pub value_read : (bytes : List ℕ) (at present n : ℕ) → present ≡ get_or bytes at 0 → n ≡ number_at bytes (at + 1) → (z : ℤ) → z ≡ signed_of 32 n → then_some (not (eqb present 0)) z ≡ value_at bytes at
unfolding value_at value_of
value_read bytes at present n p q z e = rw (← p, ← q, e) (go present)
  where
    go : (f : ℕ) → then_some (not (eqb f 0)) (signed_of 32 n) ≡ value_of f n
    go zero = refl
    go (suc f) = rw (ne_eqb (suc f) 0 (λ e. omega arith))

-- every value has five bytes
pub value-long : (v : Value) → length (value_bytes v) ≡ 5
unfolding value_bytes marked number_bytes
value-long None = ap suc (bytes-length 4 0)
value-long (Some z) = ap suc (bytes-length 4 (bits_of 32 z))

-- slots put: one, and then the others; all of them
pub slots-put : (slots : List Value) (i : ℕ) → i < length slots → {out out' : List ℕ} {k : ℕ} (next : ℕ) → next ≡ k + 5 → Put 5 k (value_bytes (get_or slots i None)) out out' → sets out' next (slots_bytes (drop (i + 1) slots)) ≡ sets out k (slots_bytes (drop i slots))
unfolding slots_bytes
slots-put slots i h next e p = rw (e, drop-cons slots i None h, add-one i) (behind p (slots_bytes (drop (suc i) slots)))

pub slots-long : (slots : List Value) → length (slots_bytes slots) ≡ 5 * length slots
unfolding slots_bytes
slots-long [] = refl
slots-long (s ∷ ss) = rw (length-append (value_bytes s) (slots_bytes ss), value-long s, slots-long ss) (omega arith)

pub all-put : (slots : List Value) {out out' : List ℕ} {at : ℕ} (k i : ℕ) → length slots ≡ 9 → 9 ≤ i → sets out' k (slots_bytes (drop i slots)) ≡ sets out at (slots_bytes slots) → Put 45 at (slots_bytes slots) out out'
unfolding slots_bytes
all-put slots {out} {out'} {at} k i l h e =
    let g : length slots ≤ i = omega arith in
    record { is = sym (none (drop i slots) (drop_of_length-le slots g)) ∙ e; long = slots-long slots ∙ ap (λ (n : ℕ). 5 * n) l }
  where
    none : (left : List Value) → left ≡ [] → sets out' k (slots_bytes left) ≡ out'
    none left q = rw q

-- an array that `array::from_fn` made: what the closure, which stays as it is, gives for each index
module _ {F B : Type 0} (g : Mut F (ℕ × Unit {0}) B) (f : F) (n : ℕ) (h : ℕ → B) (d : B) (gives : (i : ℕ) (y : B) (q : F) → i < n → Called g f (i, tt) y q → (q ≡ f) × (y ≡ h i)) where
  made-from : (m i : ℕ) (ys : List B) → i + m ≡ n → IsFromFnResultFrom g f ys i m → (k : ℕ) → i ≤ k → k < n → get_or ys k d ≡ h k
  made-from zero i ys e r k a b = absurd (omega arith)
  made-from (suc m) i ys e (q, y, is, called, rest) k a b =
      let t = gives i y q (omega arith) called in
      by-test (eqb k i)
      (λ s. let p : k ≡ i = eqb-true k i s in rw p (is.1 d ∙ t.1))
      (λ s. let p = eqb-false k i s in made-from m (i + 1) ys (omega arith) (subst (λ (x : F). IsFromFnResultFrom g x ys (i + 1) m) t.0 rest) k (omega arith) b)

  pub made : (ys : List B) → IsFromFnResult g f ys n → ys ≡ map h (range_with_len 0 n)
  made ys r = fill_by_all h ys n d r.long (λ k l. made-from n 0 ys (omega arith) r.each k (omega arith) l)

-- bytes read one after another
pub bytes_read : (n i at from : ℕ) (bytes : List ℕ) → from ≡ at + i → map (λ (k : ℕ). get_or bytes (at + k) 0) (range_with_len i n) ≡ bytes_at n bytes from
unfolding bytes_at
bytes_read zero i at from bytes e = refl
bytes_read (suc n) i at from bytes e = rw e (ap (λ (bs : List ℕ). get_or bytes (at + i) 0 ∷ bs) (bytes_read n (i + 1) at (at + i + 1) bytes (omega arith)))

-- a number read
pub number_read : (bytes : List ℕ) (at : ℕ) (b : List ℕ) → b ≡ bytes_at 4 bytes at → (n : ℕ) → n ≡ from_be_bytes w32 b → n ≡ number_at bytes at
unfolding number_at big_endian bytes_at
number_read bytes at b p n e =
    let two : at + 1 + 1 ≡ at + 2 = omega arith in
    let three : at + 1 + 1 + 1 ≡ at + 3 = omega arith in
    rw (e, p, three, two) (omega arith)

-- slots read one after another
pub slots_read : (n i at from : ℕ) (bytes : List ℕ) → from ≡ at + 5 * i → map (λ (k : ℕ). (value_at bytes (at + 5 * k))) (range_with_len i n) ≡ slots_at n bytes from
unfolding slots_at
slots_read zero i at from bytes e = refl
slots_read (suc n) i at from bytes e =
    rw e (ap (λ (ss : List Value). (value_at bytes (at + 5 * i)) ∷ ss) (slots_read n (i + 1) at (at + 5 * i + 5) bytes (omega arith)))

-- an entry's bytes
pub entry-bytes : (e : Entry) (b : ℕ) → b ≡ bits_of 8 e.id → marked b e.count ≡ entry_bytes e
unfolding entry_bytes
entry-bytes e b q = rw q

-- the length of an array of structs, from that of its cells
length-map : (X Y : Type 0) (f : X → Y) (l : List X) → length (map f l) ≡ length l
length-map X Y f [] = refl
length-map X Y f (x ∷ l) = ap suc (length-map X Y f l)

pub length-mapped : (X Y : Type 0) (f : X → Y) (l : List X) (n : ℕ) → length (map f l) ≡ n → length l ≡ n
length-mapped X Y f l n p = sym (length-map X Y f l) ∙ p

-- a number's four bytes are those of its 32 low bits
pub low-bytes : (n low : ℕ) → low ≡ n % 0x1_0000_0000 → number_bytes low ≡ number_bytes n
unfolding number_bytes
low-bytes n low e = rw e (sym (four_bytes_lem (n % 0x1_0000_0000)) ∙ same ∙ four_bytes_lem n)
  where
    a : n % 0x1_0000_0000 / 0x100_0000 % 256 ≡ n / 0x100_0000 % 256
    a = omega arith

    b : n % 0x1_0000_0000 / 0x1_0000 % 256 ≡ n / 0x1_0000 % 256
    b = omega arith

    c : n % 0x1_0000_0000 / 256 % 256 ≡ n / 256 % 256
    c = omega arith

    d : n % 0x1_0000_0000 % 256 ≡ n % 256
    d = omega arith

    same : (n % 0x1_0000_0000 / 0x100_0000 % 256) ∷ (n % 0x1_0000_0000 / 0x1_0000 % 256) ∷ (n % 0x1_0000_0000 / 256 % 256) ∷ (n % 0x1_0000_0000 % 256) ∷ [] ≡ (n / 0x100_0000 % 256) ∷ (n / 0x1_0000 % 256) ∷ (n / 256 % 256) ∷ (n % 256) ∷ []
    same = rw (a, b, c, d)

-- a piece that fills the cells is all that they hold, and is handed on
pub filled : {piece d d' : List ℕ} {n : ℕ} → Put n 0 piece d d' → length d ≡ n → d' ≡ piece
filled {piece} {d} p l =
    let f : 0 + length piece ≤ length d = rw (p.long, l) (omega arith) in
    let g : length d ≤ 0 + length piece = rw (p.long, l) (omega arith) in
    p.is ∙ sets-eq piece d 0 f ∙ rest (drop (0 + length piece) d) (drop_of_length-le d g)
  where
    rest : (r : List ℕ) → r ≡ [] → piece ++ r ≡ piece
    rest r e = rw e (append-nil piece)

pub handed : {piece d d' : List ℕ} {n : ℕ} {o : Outcome} → Put n 0 piece d d' → length d ≡ n → (cells : List ℕ) → o ≡ writes d' cells → o ≡ writes piece cells
handed p l cells e = e ∙ ap (λ (w : List ℕ). writes w cells) (filled p l)

-- four numbers, the first two by other names
pub four_same : (a a' b b' c d : ℕ) → number_bytes a ≡ number_bytes a' → number_bytes b ≡ number_bytes b' → four_bytes a b c d ≡ four_bytes a' b' c d
unfolding four_bytes
four_same a a' b b' c d e q = rw (e, q)
