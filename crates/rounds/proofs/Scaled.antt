-- Tests on heights S + L·j are tests on j, and what is small is wrapped to itself.
-- Assumes nothing.
use mathlib.Core.Path.{◌≡◌, sym, ap, ◌∙◌}
use Prim.Native.Nat.{ℕ, ◌+◌, ◌*◌, ◌-◌, ◌/◌, ◌^◌, ◌<◌}
use native.Mathlib.Omega.{arith}
use native.Mathlib.Nat.{mul-le-mul_left, mul-lt-mul_of_pos_left, mul-div_cancel_left, eq_of_mul-eq-mul_left}
use borrow.Author.Tests.{ltb-true, ltb-false, leb-true, leb-false, eqb-true, eqb-false, lt-ltb, le-ltb, le-leb, lt-leb, eq-eqb, ne_eqb}
use lib.Dec.{leb, ltb, eqb}
use lib.IntN.{pos}
use Rattle.voting.proofs.Laws.Tests.{by-test}
use mir.Syntax.{w32}
use Rattle.codec.specs.Signed.{wrapped}
use Rattle.codec.proofs.Laws.Signed.{wraps-to}

module _ (L S : ℕ) (0<L : 0 < L) where
  pub eqb-scaled : (j m : ℕ) → eqb (S + L * j) (S + L * m) ≡ eqb j m
  eqb-scaled j m =
      by-test (eqb j m)
      (λ e. eq-eqb _ _ (ap (λ (i : ℕ). S + L * i) (eqb-true j m e)) ∙ sym e)
      (λ e.
      ne_eqb _ _
      (λ q. eqb-false j m e (eq_of_mul-eq-mul_left L 0<L j m (let q' : S + L * j ≡ S + L * m = q in omega arith)))
      ∙ sym e)

  pub leb-scaled : (j m : ℕ) → leb (S + L * j) (S + L * m) ≡ leb j m
  leb-scaled j m =
      by-test (leb j m)
      (λ e. le-leb (S + L * j) (S + L * m) (let h = mul-le-mul_left L (leb-true j m e) in omega arith) ∙ sym e)
      (λ e. lt-leb (S + L * j) (S + L * m) (let h = mul-lt-mul_of_pos_left (leb-false j m e) 0<L in omega arith) ∙ sym e)

  pub ltb-scaled : (j m : ℕ) → ltb (S + L * j) (S + L * m) ≡ ltb j m
  ltb-scaled j m =
      by-test (ltb j m)
      (λ e. lt-ltb (S + L * j) (S + L * m) (let h = mul-lt-mul_of_pos_left (ltb-true j m e) 0<L in omega arith) ∙ sym e)
      (λ e. le-ltb (S + L * j) (S + L * m) (let h = mul-le-mul_left L (ltb-false j m e) in omega arith) ∙ sym e)

  pub epoch-is : (j : ℕ) → (S + L * j - S) / L ≡ j
  epoch-is j = ap (λ (n : ℕ). n / L) (let e : S + L * j - S ≡ L * j = omega arith in e) ∙ mul-div_cancel_left j 0<L

-- a number that is small is wrapped to itself
pub wrap-small : (n : ℕ) → n < 2 ^ 31 → wrapped 32 (pos n) ≡ pos n
wrap-small n h = wraps-to w32 (pos n) (record { sfits = h })
