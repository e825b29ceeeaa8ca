-- A signed number and a column of a line, a text handed out, and how long a line is.
-- Assumes nothing.
use Rattle.std.proofs.Common.{◌≡◌, add-one, ℕ, ◌+◌, ◌≤◌, true, false, List, [], ◌∷◌, ◌++◌, length, ℤ, pos, negsuc, nat_abs, refl, ap, ◌∙◌, arith, length-append, w32, SFits, to_z, of_z}
use lib.Signed.{lt_z, mag}
use mir.ValLaws.{to_z-of_z}
use Rattle.codec.specs.Decimal.{digits}
use Rattle.codec.proofs.Laws.Decimal.{digits-length}
use Rattle.codec.proofs.Laws.Signed.{is-neg, not_neg}
use Rattle.voting.specs.Value.{Value}
use Rattle.std.specs.Prelude.{None, Some}
use Rattle.voting.specs.declared.table.Fork.{Fork}
use Rattle.stream.specs.Lines.{decimal, column, epoch_line, end_line, line_most}

-- a signed number by its sign, as the test `x < 0` tells it, and its absolute value
module _ (x : ℤ) (f : SFits w32 x) (n : ℕ) (a : n ≡ nat_abs (to_z w32 (of_z w32 x))) where
  magnitude : n ≡ nat_abs x
  magnitude = a ∙ ap nat_abs (to_z-of_z w32 x f)

  pub decimal-neg : lt_z (to_z w32 (of_z w32 x)) (pos 0) ≡ true → (45 ∷ []) ++ digits 10 n ≡ decimal x
  unfolding decimal
  decimal-neg t = rw magnitude (go x (is-neg w32 x f t))
    where
      go : (z : ℤ) → z ≡ negsuc (mag z) → (45 ∷ []) ++ digits 10 (nat_abs z) ≡ decimal z
      go (pos n) e = absurd (cc)
      go (negsuc n) e = rw add-one

  pub decimal-pos : lt_z (to_z w32 (of_z w32 x)) (pos 0) ≡ false → digits 10 n ≡ decimal x
  unfolding decimal
  decimal-pos t = rw magnitude (go x (not_neg w32 x f t))
    where
      go : (z : ℤ) → z ≡ pos (mag z) → digits 10 (nat_abs z) ≡ decimal z
      go (pos n) e = refl
      go (negsuc n) e = absurd (cc)

-- an entry of the table, by its variant; a number comes back from its bits
pub column-absent : (v : Value) → v ≡ None → 45 ∷ [] ≡ column v
unfolding column
column-absent v q = rw q

pub column-number : (v : Value) (x : ℤ) → SFits w32 x → v ≡ Some x → decimal (to_z w32 (of_z w32 x)) ≡ column v
unfolding column
column-number v x f q = rw q (ap decimal (to_z-of_z w32 x f))

-- how long a line is
record Most (l : List ℕ) (n : ℕ) : Type 0 where
  is : length l ≤ n

append-most : {a b : List ℕ} {m n : ℕ} → Most a m → Most b n → Most (a ++ b) (m + n)
append-most {a} {b} h g = record { is = omega (arith, length-append a b, h.is, g.is) }

digits-most : (n : ℕ) → Most (digits 10 n) 10
digits-most n = record { is = digits-length 10 n }

one-most : (x : ℕ) → Most (x ∷ []) 1
one-most x = record { is = omega arith }

column-most : (v : Value) → Most (column v) 11
unfolding column decimal
column-most None = record { is = omega arith }
column-most (Some (pos n)) = record { is = omega (arith, digits-length 10 n) }
column-most (Some (negsuc n)) = record { is = omega (arith, digits-length 10 (n + 1)) }

pub epoch-most : (height : ℕ) (f : Fork) → length (epoch_line height f) ≤ line_most
unfolding epoch_line
epoch-most height f =
    let a = append-most (digits-most height) (one-most 32) in
    let b = append-most (append-most a (column-most f.version)) (one-most 32) in
    let c = append-most (append-most b (column-most f.start)) (one-most 32) in
    (append-most (append-most c (column-most f.votes)) (one-most 10)).is

pub end-most : (accepted refusal : ℕ) → length (end_line accepted refusal) ≤ line_most
unfolding end_line
end-most accepted refusal =
    let e : Most (101 ∷ 110 ∷ 100 ∷ []) 3 = record { is = omega arith } in
    let a = append-most (append-most (append-most e (one-most 32)) (digits-most accepted)) (one-most 32) in
    omega (arith, (append-most (append-most a (digits-most refusal)) (one-most 10)).is)
