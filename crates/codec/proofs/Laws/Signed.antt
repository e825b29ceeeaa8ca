-- Laws of two's complement over a width w.
-- Assumes nothing.
use Rattle.std.proofs.Common.{◌≡◌, ℕ, zero, suc, ◌+◌, ◌-◌, ◌%◌, ◌^◌, ◌<◌, ◌≤◌, Bool, true, false, cond, T, ltb, ℤ, pos, negsuc, ◌+ℤ◌, ◌-ℤ◌, neg_ℤ, nat_abs, sym, refl, ap, ◌∙◌, subst, mod-eq_of_lt, arith, w8, w16, w32, w64, Fits, SFits, to_z, of_z, ltb-false, ltb-true}
use mathlib.Core.Path.{subst⁻¹}
use native.Mathlib.Nat.{add-mod_right}
use lib.IntN.{+ℤ_idl}
use lib.Signed.{mag, lt_z, non_neg}
use mir.Syntax.{Width, w128}
use mir.Val.{bits, hbits, sel}
use mir.ValLaws.{pow-bits, to_z-of_z, to_z_pos, of_z_fits, to_z-Fits, of_z-to_z}
use Rattle.std.specs.Int.{int_wrap}
use Rattle.codec.specs.Signed.{modulo, bits_of, signed_of, wrapped}

-- the machine's reading of bits is the definition's
sel-cond : (b : Bool) (x y : ℤ) → sel b x y ≡ cond b x y
sel-cond true x y = refl
sel-cond false x y = refl

pub to_z-is : (w : Width) (n : ℕ) → to_z w n ≡ signed_of (bits w) n
unfolding signed_of
to_z-is w8 n = rw sel-cond
to_z-is w16 n = rw sel-cond
to_z-is w32 n = rw sel-cond
to_z-is w64 n = rw sel-cond
to_z-is w128 n = rw sel-cond

-- the bits of a number that fits
pub of_z-is : (w : Width) (z : ℤ) → SFits w z → of_z w z ≡ bits_of (bits w) z
unfolding bits_of modulo
of_z-is w (pos n) f = sym (mod-eq_of_lt (omega (arith, pow-bits w)))
of_z-is w (negsuc n) f = ap (λ (m : ℕ). 2 ^ bits w - suc m) (sym (mod-eq_of_lt (omega (arith, pow-bits w))))

-- a number that fits is wrapped to itself
pub wraps-to : (w : Width) (z : ℤ) → SFits w z → wrapped (bits w) z ≡ z
unfolding wrapped
wraps-to w z f = sym (to_z-is w (bits_of (bits w) z)) ∙ ap (to_z w) (sym (of_z-is w z f)) ∙ to_z-of_z w z f

-- std's word for wrapping
pub wrapped-is : (w : Width) (z : ℤ) → int_wrap w z ≡ wrapped (bits w) z
unfolding int_wrap wrapped bits_of modulo
wrapped-is w (pos n) = to_z-is w (n % 2 ^ bits w)
wrapped-is w (negsuc n) = to_z-is w (2 ^ bits w - 1 - n % 2 ^ bits w) ∙ ap (signed_of (bits w)) (omega arith)

-- the bits of a number, read as signed, are the number; the bits that were read are the number's bits
pub bits_back : (w : Width) (z : ℤ) → SFits w z → signed_of (bits w) (bits_of (bits w) z) ≡ z
unfolding wrapped
bits_back w z f = wraps-to w z f

pub bits_fit : (w : Width) (z : ℤ) → SFits w z → bits_of (bits w) z < 2 ^ bits w
bits_fit w z f = subst (λ (n : ℕ). n < 2 ^ bits w) (of_z-is w z f) (of_z_fits w z f).fits

pub signed_back : (w : Width) (n : ℕ) → n < 2 ^ bits w → bits_of (bits w) (signed_of (bits w) n) ≡ n
signed_back w n h =
    let f : Fits w n = record { fits = h } in
    rw (← to_z-is w n, ← of_z-is w (to_z w n) (to_z-Fits w n f)) (of_z-to_z w n f)

-- the sign that a test `x < 0` leaves
pub is-neg : (w : Width) (z : ℤ) → SFits w z → lt_z (to_z w (of_z w z)) (pos 0) ≡ true → z ≡ negsuc (mag z)
is-neg w (pos n) f t = absurd (omega (arith, ltb-true n 0 (rw (to_z-of_z w (pos n) f) at t)))
is-neg w (negsuc n) f t = refl

pub not_neg : (w : Width) (z : ℤ) → SFits w z → lt_z (to_z w (of_z w z)) (pos 0) ≡ false → z ≡ pos (mag z)
not_neg w (pos n) f t = refl
not_neg w (negsuc n) f t = absurd (subst T (rw (to_z-of_z w (negsuc n) f) at t) tt)

-- `!x` of a negative x, read as signed: its magnitude
pub flip : (w : Width) (n : ℕ) → n < 2 ^ hbits w → to_z w ((2 ^ bits w - 1) - (2 ^ bits w - suc n)) ≡ pos n
flip w n h = ap (to_z w) (omega (arith, pow-bits w)) ∙ to_z_pos w n h

-- The needs of `(!x) as uN` where x is below 0, and of `x as uN` where it is not
module _ (w : Width) (z : ℤ) (f : SFits w z) where
  pub neg-cast : lt_z (to_z w (of_z w z)) (pos 0) ≡ true → T (non_neg (to_z w ((2 ^ bits w - 1) - of_z w z))) × Fits w (nat_abs (to_z w ((2 ^ bits w - 1) - of_z w z)))
  neg-cast t = rw (is-neg w z f t, flip w (mag z) f.sfits) (tt, omega (arith, pow-bits w))

  pub pos-cast : lt_z (to_z w (of_z w z)) (pos 0) ≡ false → T (non_neg (to_z w (of_z w z))) × Fits w (nat_abs (to_z w (of_z w z)))
  pos-cast t = rw (not_neg w z f t, to_z_pos w (mag z) f.sfits) (tt, omega (arith, pow-bits w))

-- a natural number and a negative one, by whether the sum is negative
mixed : (M a b : ℕ) (t : Bool) → ltb a (suc b) ≡ t → a < M → b < M → (a + (M - suc b)) % M ≡ modulo M (cond t (negsuc (suc b - suc a)) (pos (a - suc b)))
unfolding modulo
mixed M a b true e f g =
    let h : a < suc b = ltb-true a (suc b) e in
    omega (arith, mod-eq_of_lt {n = a + (M - suc b)} {m = M} (omega arith), mod-eq_of_lt {n = suc b - suc a} {m = M} (omega arith))
mixed M a b false e f g =
    let h : suc b ≤ a = ltb-false a (suc b) e in
    ap (λ (m : ℕ). m % M) (omega arith) ∙ add-mod_right (a - suc b) M

-- the bits of a natural number and a signed one, added and wrapped; and of two signed ones
add-natural : (w : Width) (a : ℕ) (b : ℤ) → a < 2 ^ bits w → SFits w b → (a + of_z w b) % 2 ^ bits w ≡ bits_of (bits w) (pos a +ℤ b)
unfolding bits_of modulo
add-natural w a (pos b) f g = refl
add-natural w a (negsuc b) f g = mixed (2 ^ bits w) a b (ltb a (suc b)) refl f (omega (arith, pow-bits w))

pub add_wraps : (w : Width) (a b : ℤ) → SFits w a → SFits w b → (of_z w a + of_z w b) % 2 ^ bits w ≡ bits_of (bits w) (a +ℤ b)
unfolding bits_of modulo
add_wraps w (pos a) b f g = add-natural w a b (omega (arith, pow-bits w)) g
add_wraps w (negsuc a) (pos b) f g =
    ap (λ (m : ℕ). m % 2 ^ bits w) (omega (arith, pow-bits w)) ∙ mixed (2 ^ bits w) b a (ltb b (suc a)) refl (omega (arith, pow-bits w)) (omega (arith, pow-bits w))
add_wraps w (negsuc a) (negsuc b) f g =
    ap (λ (m : ℕ). m % 2 ^ bits w) (omega (arith, pow-bits w)) ∙ add-mod_right (2 ^ bits w - suc (suc (a + b))) (2 ^ bits w) ∙
    omega (arith, pow-bits w, mod-eq_of_lt {n = 2 ^ bits w - suc (suc (a + b))} {m = 2 ^ bits w} (omega (arith, pow-bits w)), mod-eq_of_lt {n = suc (a + b)} {m = 2 ^ bits w} (omega (arith, pow-bits w)))

-- a natural number read as signed wraps to the same sum
pub wrapped-natural : (w : Width) (a : ℕ) (b : ℤ) → a < 2 ^ bits w → SFits w b → wrapped (bits w) (signed_of (bits w) a +ℤ b) ≡ wrapped (bits w) (pos a +ℤ b)
unfolding wrapped
wrapped-natural w a b h g =
    let f : Fits w a = record { fits = h } in
    let e : bits_of (bits w) (to_z w a +ℤ b) ≡ bits_of (bits w) (pos a +ℤ b) = sym (add_wraps w (to_z w a) b (to_z-Fits w a f) g) ∙ ap (λ (m : ℕ). (m + of_z w b) % 2 ^ bits w) (of_z-to_z w a f) ∙ add-natural w a b h g in
    ap (signed_of (bits w)) (ap (λ (z : ℤ). bits_of (bits w) (z +ℤ b)) (sym (to_z-is w a)) ∙ e)

pub wrapped-pos : (w : Width) (a : ℕ) → a < 2 ^ bits w → signed_of (bits w) a ≡ wrapped (bits w) (pos a)
unfolding wrapped bits_of modulo
wrapped-pos w a h = ap (signed_of (bits w)) (sym (mod-eq_of_lt h))

-- the same from the bits of the summands, as a callee's `ensures` has them: a signed argument x stands there as `to_z w (of_z w x)`
pub bits-add : (w : Width) (a b : ℤ) → SFits w a → SFits w b → {m n : ℕ} → m ≡ bits_of (bits w) (to_z w (of_z w a)) → n ≡ bits_of (bits w) (to_z w (of_z w b)) → (m + n) % 2 ^ bits w ≡ bits_of (bits w) (a +ℤ b)
bits-add w a b f g p q = rw (p, q, to_z-of_z w a f, to_z-of_z w b g, ← of_z-is w a f, ← of_z-is w b g) (add_wraps w a b f g)

-- The needs of `0 - x`, where x is not the least number of its type, whose bits are 2 ^ hbits w
neg-fits : (w : Width) (z : ℤ) → SFits w z → (of_z w z ≡ 2 ^ hbits w → ⊥) → SFits w (neg_ℤ z)
neg-fits w (pos zero) f h = f
neg-fits w (pos (suc n)) f h = record { sfits = omega arith }
neg-fits w (negsuc n) f h = record { sfits = omega (arith, pow-bits w) }

minus : (w : Width) (z : ℤ) → SFits w z → pos 0 -ℤ to_z w (of_z w z) ≡ neg_ℤ z
minus w z f = +ℤ_idl (neg_ℤ (to_z w (of_z w z))) ∙ ap neg_ℤ (to_z-of_z w z f)

pub minus-fits : (w : Width) (z : ℤ) → SFits w z → (of_z w z ≡ 2 ^ hbits w → ⊥) → SFits w (pos 0 -ℤ to_z w (of_z w z))
minus-fits w z f h = subst⁻¹ (SFits w) (minus w z f) (neg-fits w z f h)

pub minus-wraps : (w : Width) (z : ℤ) → SFits w z → (of_z w z ≡ 2 ^ hbits w → ⊥) → to_z w (of_z w (pos 0 -ℤ to_z w (of_z w z))) ≡ wrapped (bits w) (neg_ℤ z)
minus-wraps w z f h = to_z-of_z w (pos 0 -ℤ to_z w (of_z w z)) (minus-fits w z f h) ∙ minus w z f ∙ sym (wraps-to w (neg_ℤ z) (neg-fits w z f h))

least : (w : Width) (z : ℤ) → SFits w z → of_z w z ≡ 2 ^ hbits w → let y = to_z w (2 ^ hbits w) in to_z w (of_z w y) ≡ wrapped (bits w) (neg_ℤ y) → to_z w (of_z w z) ≡ wrapped (bits w) (neg_ℤ z)
least w z f e k = subst⁻¹ (λ (y : ℤ). to_z w (of_z w y) ≡ wrapped (bits w) (neg_ℤ y)) (sym (to_z-of_z w z f) ∙ ap (to_z w) e) k

pub minus-least : (w : Width) (z : ℤ) → SFits w z → of_z w z ≡ 2 ^ hbits w → to_z w (of_z w z) ≡ wrapped (bits w) (neg_ℤ z)
unfolding wrapped bits_of modulo signed_of
minus-least w8 z f e = least w8 z f e refl
minus-least w16 z f e = least w16 z f e refl
minus-least w32 z f e = least w32 z f e refl
minus-least w64 z f e = least w64 z f e refl
minus-least w128 z f e = least w128 z f e refl
