-- The arithmetic of the steps: the three lists are small, and a step fits 32 bits.
-- Assumes nothing.
use Rattle.std.proofs.Common.{◌≡◌, ℕ, zero, suc, ◌+◌, ◌-◌, ◌/◌, ◌^◌, ◌<◌, ◌≤◌, Bool, true, false, cond, ltb, leb, List, [], ◌∷◌, get_or, ℤ, pos, negsuc, ◌+ℤ◌, ◌-ℤ◌, neg_ℤ, refl, ap, ◌∙◌, arith, w32, SFits, to_z, of_z, ltb-true, lt-ltb, leb-true}
use mathlib.Core.Path.{subst⁻¹}
use mathlib.Core.Bool.{false≢true}
use lib.IntN.{sub_ℕ}
use lib.Signed.{mag, lt_z}
use mir.ValLaws.{to_z-of_z}
use Rattle.voting.specs.Ordinary.{least, greatest, steps, least_of, greatest_of, fixed_step_of, hundredth, step_size, raised, lowered}
use Rattle.voting.proofs.Laws.Tests.{both, every}

-- a bound on each number of a list, by one computed test
small : (n : ℕ) (zs : List ℤ) → every (λ z. leb (mag z) n) zs ≡ true → (k : ℕ) → mag (get_or zs k (pos 0)) ≤ n
unfolding every
small n [] t k = omega arith
small n (z ∷ zs) t zero = leb-true (mag z) n (both (leb (mag z) n) (every (λ y. leb (mag y) n) zs) t).0
small n (z ∷ zs) t (suc k) = small n zs (both (leb (mag z) n) (every (λ y. leb (mag y) n) zs) t).1 k

pub greatest-small : (m : ℕ) → mag (greatest_of m) ≤ 1073741823
unfolding greatest_of every
greatest-small m = small 1073741823 greatest refl (m - 1)

pub least-small : (m : ℕ) → mag (least_of m) ≤ 1073741823
unfolding least_of every
least-small m = small 1073741823 least refl (m - 1)

pub step_small : (m : ℕ) → mag (fixed_step_of m) ≤ 25000
unfolding fixed_step_of every
step_small m = small 25000 steps refl (m - 1)

-- the size of a step: a positive number, at most 25,000 or a hundredth of the value's magnitude
pub record Size (z s : ℤ) : Type 0 where
  pub less : ℕ
  pub is : s ≡ pos (suc less)
  pub bound : less ≤ 25000 + mag z / 100

hundredth-is : (z : ℤ) → Size z (hundredth z)
unfolding hundredth
hundredth-is (pos n) = go (ltb 1 (n / 100)) refl
  where
    go : (t : Bool) → ltb 1 (n / 100) ≡ t → Size (pos n) (cond t (pos (n / 100)) (pos 1))
    go true e = let l : 1 < n / 100 = ltb-true 1 (n / 100) e in record { less = n / 100 - 1; is = ap pos (omega arith); bound = omega arith }
    go false e = record { less = 0; is = refl; bound = omega arith }
hundredth-is (negsuc n) = go (suc n / 100)
  where
    go : (q : ℕ) → Size (negsuc n) (cond (lt_z (pos 1) (neg_ℤ (pos q))) (neg_ℤ (pos q)) (pos 1))
    go zero = record { less = 0; is = refl; bound = omega arith }
    go (suc q) = record { less = 0; is = refl; bound = omega arith }

size_is : (fixed z : ℤ) → mag fixed ≤ 25000 → Size z (step_size fixed z)
unfolding step_size
size_is (pos zero) z h = hundredth-is z
size_is (pos (suc n)) z h = record { less = n; is = rw (lt-ltb 0 (suc n) (omega arith)); bound = omega arith }
size_is (negsuc n) z h = hundredth-is z

-- what a difference of two naturals is below, if both are
mag-sub : (a b H : ℕ) → a < H → b < H → mag (sub_ℕ a (suc b)) < H
mag-sub a b H f g = go (ltb a (suc b)) refl
  where
    go : (t : Bool) → ltb a (suc b) ≡ t → mag (cond t (negsuc (suc b - suc a)) (pos (a - suc b))) < H
    go true e = omega arith
    go false e = omega arith

-- a step up from below a number of the lists fits, and a step down from above one
pub up_fits : (z g s : ℤ) → SFits w32 z → mag g ≤ 1073741823 → lt_z z g ≡ true → Size z s → SFits w32 (z +ℤ s)
up_fits z g s f b t k = subst⁻¹ (λ (y : ℤ). SFits w32 (z +ℤ y)) k.is (go z g f b t k.bound)
  where
    go : (z g : ℤ) {l : ℕ} → SFits w32 z → mag g ≤ 1073741823 → lt_z z g ≡ true → l ≤ 25000 + mag z / 100 → SFits w32 (z +ℤ pos (suc l))
    go (pos n) (pos g) f b t h = let q : n < g = ltb-true n g t in record { sfits = omega arith }
    go (pos n) (negsuc g) f b t h = absurd (false≢true t)
    go (negsuc n) g {l} f b t h = record { sfits = mag-sub (suc l) n (2 ^ 31) (omega (arith, f.sfits)) f.sfits }

pub down_fits : (z g s : ℤ) → SFits w32 z → mag g ≤ 1073741823 → lt_z g z ≡ true → Size z s → SFits w32 (z -ℤ s)
down_fits z g s f b t k = subst⁻¹ (λ (y : ℤ). SFits w32 (z -ℤ y)) k.is (go z g f b t k.bound)
  where
    go : (z g : ℤ) {l : ℕ} → SFits w32 z → mag g ≤ 1073741823 → lt_z g z ≡ true → l ≤ 25000 + mag z / 100 → SFits w32 (z -ℤ pos (suc l))
    go (pos n) g {l} f b t h = record { sfits = mag-sub n l (2 ^ 31) f.sfits (omega (arith, f.sfits)) }
    go (negsuc n) (pos g) f b t h = absurd (false≢true t)
    go (negsuc n) (negsuc g) f b t h = let q : n < g = ltb-true n g t in record { sfits = omega arith }

pub sized : (m : ℕ) (z s : ℤ) → s ≡ step_size (fixed_step_of m) z → Size z s
sized m z s e = subst⁻¹ (Size z) e (size_is (fixed_step_of m) z (step_small m))

-- The needs of `a + b` or `a - b` at i32, where the result is y
abbrev pub Sum : (ℤ → ℤ → ℤ) → ℤ → ℤ → ℤ → Type 0
Sum op a b y = SFits w32 (op (to_z w32 (of_z w32 a)) (to_z w32 (of_z w32 b))) × (to_z w32 (of_z w32 (op (to_z w32 (of_z w32 a)) (to_z w32 (of_z w32 b)))) ≡ y)

sum_back : (op : ℤ → ℤ → ℤ) (a b : ℤ) → SFits w32 a → SFits w32 b → SFits w32 (op a b) → Sum op a b (op a b)
sum_back op a b f g h = rw (to_z-of_z w32 a f, to_z-of_z w32 b g) (h, to_z-of_z w32 (op a b) h)

-- a step of a parameter, up and down, where its test passed
pub up_step : (m : ℕ) (z s : ℤ) → SFits w32 z → SFits w32 s → s ≡ step_size (fixed_step_of m) z → lt_z z (greatest_of m) ≡ true → Sum ◌+ℤ◌ z s (raised m z)
unfolding raised
up_step m z s f g e t =
    let r = sum_back ◌+ℤ◌ z s f g (up_fits z (greatest_of m) s f (greatest-small m) t (sized m z s e)) in
    (r.0, r.1 ∙ rw (t, e))

pub down_step : (m : ℕ) (z s : ℤ) → SFits w32 z → SFits w32 s → s ≡ step_size (fixed_step_of m) z → lt_z (least_of m) z ≡ true → Sum ◌-ℤ◌ z s (lowered m z)
unfolding lowered
down_step m z s f g e t =
    let r = sum_back ◌-ℤ◌ z s f g (down_fits z (least_of m) s f (least-small m) t (sized m z s e)) in
    (r.0, r.1 ∙ rw (t, e))
