-- Signed numbers as the code tests them, and heights shifted by 2^31, which are never negative.
-- Assumes nothing.
use Rattle.std.proofs.Common.{◌≡◌, ℕ, suc, ◌+◌, ◌-◌, ◌%◌, ◌^◌, ◌<◌, ◌≤◌, Bool, true, false, cond, T, eqb, ltb, leb, ℤ, pos, negsuc, ◌+ℤ◌, sym, refl, ap, ◌∙◌, subst, mod-eq_of_lt, arith, w32, SFits, of_z, ltb-false, le-ltb, eq-eqb, ne_eqb, eqb-true, le-leb}
use lib.IntN.{+ℤ_assoc, +ℤ_comm}
use lib.Signed.{mag, lt_z, le_z}
use mir.Syntax.{Width}
use mir.Val.{bits, hbits}
use mir.ValLaws.{pow-bits}
use borrow.Author.Tests.{lt-leb}
use Rattle.codec.specs.Signed.{bits_of}
use Rattle.codec.proofs.Laws.Signed.{of_z-is}
use Rattle.voting.specs.Common.{eq_z}
use Rattle.voting.proofs.Laws.Tests.{eqb-iff, leb-iff, ltb_iff, eqb_comm}

-- the test of two integers
pub eq_z-same : (z : ℤ) → eq_z z z ≡ true
unfolding eq_z
eq_z-same (pos n) = eq-eqb n n refl
eq_z-same (negsuc n) = eq-eqb n n refl

pub eq_z-true : (x y : ℤ) → eq_z x y ≡ true → x ≡ y
unfolding eq_z
eq_z-true (pos a) (pos b) e = ap pos (eqb-true a b e)
eq_z-true (pos a) (negsuc b) e = absurd (subst T (sym e) tt)
eq_z-true (negsuc a) (pos b) e = absurd (subst T (sym e) tt)
eq_z-true (negsuc a) (negsuc b) e = ap negsuc (eqb-true a b e)

pub ne-eq_z : (x y : ℤ) → (x ≡ y → ⊥) → eq_z x y ≡ false
ne-eq_z x y h = go (eq_z x y) refl
  where
    go : (t : Bool) → eq_z x y ≡ t → t ≡ false
    go true e = absurd (h (eq_z-true x y e))
    go false e = refl

pub eq_z-comm : (x y : ℤ) → eq_z x y ≡ eq_z y x
unfolding eq_z
eq_z-comm (pos a) (pos b) = eqb_comm a b
eq_z-comm (pos a) (negsuc b) = refl
eq_z-comm (negsuc a) (pos b) = refl
eq_z-comm (negsuc a) (negsuc b) = eqb_comm a b

-- equality of bits is equality
pub same_number : (w : Width) (x y : ℤ) → SFits w x → SFits w y → eqb (of_z w x) (of_z w y) ≡ eq_z x y
unfolding eq_z
same_number w (pos a) (pos b) f g = refl
same_number w (pos a) (negsuc b) f g = ne_eqb a (2 ^ bits w - suc b) (λ q. omega (arith, pow-bits w))
same_number w (negsuc a) (pos b) f g = ne_eqb (2 ^ bits w - suc a) b (λ q. omega (arith, pow-bits w))
same_number w (negsuc a) (negsuc b) f g =
    eqb-iff (2 ^ bits w - suc a) (2 ^ bits w - suc b) a b (λ q. omega (arith, pow-bits w)) (λ q. omega (arith, pow-bits w))

pub is-number : (w : Width) (z : ℤ) (n : ℕ) → SFits w z → n < 2 ^ hbits w → eq_z z (pos n) ≡ eqb (of_z w z) n
is-number w z n f l = sym (same_number w z (pos n) f (record { sfits = l }))

-- a number's bits, raised by 2^31 and wrapped, are the number and 2^31
pub shifted : (s : ℤ) → SFits w32 s → (n : ℕ) → n ≡ (bits_of 32 s + 2147483648) % 4294967296 → pos n ≡ s +ℤ pos 2147483648
shifted s f n e = ap pos (e ∙ ap (λ (m : ℕ). (m + 2147483648) % 4294967296) (sym (of_z-is w32 s f))) ∙ go s f.sfits
  where
    back : (a : ℕ) → a < 2147483648 → (4294967296 - suc a + 2147483648) % 4294967296 ≡ 2147483648 - suc a
    back a h = omega arith

    go : (s : ℤ) → mag s < 2147483648 → pos ((of_z w32 s + 2147483648) % 4294967296) ≡ s +ℤ pos 2147483648
    go (pos a) h = ap pos (mod-eq_of_lt (omega arith))
    go (negsuc a) h = ap pos (back a h) ∙ sym (rw (le-ltb 2147483648 (suc a) h))

pub shifted_sum : (s : ℤ) (n d : ℕ) → pos n ≡ s +ℤ pos 2147483648 → pos (n + d) ≡ (s +ℤ pos d) +ℤ pos 2147483648
shifted_sum s n d e =
    ap (λ (z : ℤ). z +ℤ pos d) e ∙ +ℤ_assoc s (pos 2147483648) (pos d) ∙ ap (λ (z : ℤ). s +ℤ z) (+ℤ_comm (pos 2147483648) (pos d)) ∙ sym (+ℤ_assoc s (pos d) (pos 2147483648))

-- what a shifted number stands for: one not below 0, or one below
unshift-pos : (a r : ℕ) → pos r ≡ pos a +ℤ pos 2147483648 → r ≡ a + 2147483648
unshift-pos a r e = cc

unshift-neg : (n r : ℕ) → pos r ≡ negsuc n +ℤ pos 2147483648 → r + suc n ≡ 2147483648
unshift-neg n r e = go (ltb 2147483648 (suc n)) refl e
  where
    go : (t : Bool) → ltb 2147483648 (suc n) ≡ t → pos r ≡ cond t (negsuc (suc n - suc 2147483648)) (pos (2147483648 - suc n)) → r + suc n ≡ 2147483648
    go true q e = absurd (let z : ◌≡◌ {A = ℕ} 0 1 = cc in omega arith)
    go false q e = let h : suc n ≤ 2147483648 = ltb-false 2147483648 (suc n) q in let k : r ≡ 2147483648 - suc n = cc in omega arith

-- a height tested against an exact height, both shifted
module _ (h r : ℕ) where
  pub at-exactly : (z : ℤ) → pos r ≡ z +ℤ pos 2147483648 → eqb (h + 2147483648) r ≡ eq_z (pos h) z
  unfolding eq_z
  at-exactly (pos a) e = let k = unshift-pos a r e in eqb-iff (h + 2147483648) r h a (λ q. omega arith) (λ q. omega arith)
  at-exactly (negsuc n) e = let k = unshift-neg n r e in ne_eqb (h + 2147483648) r (λ q. omega arith)

  pub at_most : (z : ℤ) → pos r ≡ z +ℤ pos 2147483648 → leb (h + 2147483648) r ≡ le_z (pos h) z
  at_most (pos a) e = let k = unshift-pos a r e in leb-iff (h + 2147483648) r h a (λ q. omega arith) (λ q. omega arith)
  at_most (negsuc n) e = let k = unshift-neg n r e in lt-leb (h + 2147483648) r (omega arith)

  pub at_least : (z : ℤ) → pos r ≡ z +ℤ pos 2147483648 → leb r (h + 2147483648) ≡ le_z z (pos h)
  at_least (pos a) e = let k = unshift-pos a r e in leb-iff r (h + 2147483648) a h (λ q. omega arith) (λ q. omega arith)
  at_least (negsuc n) e = let k = unshift-neg n r e in le-leb r (h + 2147483648) (omega arith)

  pub below : (z : ℤ) → pos r ≡ z +ℤ pos 2147483648 → ltb (h + 2147483648) r ≡ lt_z (pos h) z
  below (pos a) e = let k = unshift-pos a r e in ltb_iff (h + 2147483648) r h a (λ q. omega arith) (λ q. omega arith)
  below (negsuc n) e = let k = unshift-neg n r e in le-ltb (h + 2147483648) r (omega arith)
