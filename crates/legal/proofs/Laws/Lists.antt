-- Numbers in rising order, those that pass a test, and the first of them. The test is any one, so that no law has to count to 2^24.
-- Assumes nothing.
use mathlib.Core.Path.{◌≡◌, refl, sym, ◌∙◌, subst}
use mathlib.Core.Bool.{Bool, true, false, cond}
use mathlib.Core.List.{List, [], ◌∷◌}
use Prim.Native.Nat.{ℕ, zero, suc, ◌+◌, ◌-◌, ◌≤◌, ◌<◌}
use native.Mathlib.Omega.{arith}
use native.Mathlib.Nat.{add-zero, zero-add}
use lib.Dec.{eqb}
use borrow.Author.Tests.{eqb-true, eqb-false}
use Rattle.legal.specs.Legal.{numbers, kept}

module _ (p : ℕ → Bool) where
  abbrev pub from : ℕ → ℕ → List ℕ
  from k n = kept p (numbers k n)

  -- one number: it passes, or not
  pub passes : (k n : ℕ) → p n ≡ true → from (suc k) n ≡ n ∷ from k (suc n)
  unfolding numbers kept
  passes k n e = rw e

  fails : (k n : ℕ) → p n ≡ false → from (suc k) n ≡ from k (suc n)
  unfolding numbers kept
  fails k n e = rw e

  -- numbers of which none passes
  pub skips : (j k n : ℕ) → ((m : ℕ) → n ≤ m → m < n + j → p m ≡ false) → from (j + k) n ≡ from k (n + j)
  skips zero k n h = rw (add-zero, zero-add)
  skips (suc j) k n h =
      let s : suc j + k ≡ suc (j + k) = omega arith in
      let e : n + suc j ≡ suc n + j = omega arith in
      rw (s, e) (fails (j + k) n (h n (omega arith) (omega arith)) ∙ skips j k (suc n) (λ m l g. h m (omega arith) (omega arith)))

  -- what fails at n and above it
  one_more : (n q : ℕ) → p n ≡ false → ((m : ℕ) → suc n ≤ m → m < q → p m ≡ false) → (m : ℕ) → n ≤ m → m < q → p m ≡ false
  one_more n q e h m l g = go (eqb n m) refl
    where
      go : (t : Bool) → eqb n m ≡ t → p m ≡ false
      go true x = subst (λ (i : ℕ). p i ≡ false) (eqb-true n m x) e
      go false x = let d : (n ≡ m → ⊥) = eqb-false n m x in h m (omega arith) g

  -- the first that passes, and what comes after it
  pub record First (k n q : ℕ) (qs : List ℕ) : Type 0 where
    pub passed : p q ≡ true
    pub above : n ≤ q
    pub below : q < k + n
    pub before : (m : ℕ) → n ≤ m → m < q → p m ≡ false
    pub after : qs ≡ from (k + n - suc q) (suc q)

  pub first : (k n q : ℕ) (qs : List ℕ) → from k n ≡ q ∷ qs → First k n q qs
  unfolding numbers kept
  first zero n q qs e = absurd (let z : ◌≡◌ {A = ℕ} 0 1 = cc in omega arith)
  first (suc k) n q qs e = go (p n) refl e (first k (suc n) q qs)
    where
      go : (t : Bool) → p n ≡ t → cond t (n ∷ from k (suc n)) (from k (suc n)) ≡ q ∷ qs → (from k (suc n) ≡ q ∷ qs → First k (suc n) q qs) → First (suc k) n q qs
      go true t e ih =
          let x : n ≡ q = cc in
          let y : from k (suc n) ≡ qs = cc in
          let s : suc k + n - suc q ≡ k = omega arith in
          record {
            passed = subst (λ (m : ℕ). p m ≡ true) x t;
            above = omega arith;
            below = omega arith;
            before = λ m l g. absurd (omega arith);
            after = rw (s, ← x) (sym y);
          }
      go false t e ih =
          let f = ih e in
          let s : suc k + n - suc q ≡ k + suc n - suc q = omega arith in
          record {
            passed = f.passed;
            above = omega (arith, f.above);
            below = omega (arith, f.below);
            before = one_more n q t f.before;
            after = rw s f.after;
          }

  -- none passes
  pub none : (k n : ℕ) → from k n ≡ [] → (m : ℕ) → n ≤ m → m < k + n → p m ≡ false
  unfolding numbers kept
  none zero n e m l g = absurd (omega arith)
  none (suc k) n e m l g = go (p n) refl e (none k (suc n))
    where
      go : (t : Bool) → p n ≡ t → cond t (n ∷ from k (suc n)) (from k (suc n)) ≡ [] → (from k (suc n) ≡ [] → (m : ℕ) → suc n ≤ m → m < k + suc n → p m ≡ false) → p m ≡ false
      go true t e ih = absurd (let z : ◌≡◌ {A = ℕ} 0 1 = cc in omega arith)
      go false t e ih = one_more n (k + suc n) t (ih e) m l (omega arith)

  -- of those, the ones that pass a second test: all of them, or none of the first j numbers
  module _ (q : ℕ → Bool) where
    pub all_pass : (k n : ℕ) → ((m : ℕ) → n ≤ m → q m ≡ true) → kept q (from k n) ≡ from k n
    unfolding numbers kept
    all_pass zero n h = refl
    all_pass (suc k) n h = go (p n) (all_pass k (suc n) (λ m l. h m (omega arith)))
      where
        go : (t : Bool) → kept q (from k (suc n)) ≡ from k (suc n) → kept q (cond t (n ∷ from k (suc n)) (from k (suc n))) ≡ cond t (n ∷ from k (suc n)) (from k (suc n))
        go true ih = rw (h n (omega arith), ih)
        go false ih = ih

    pub none_pass : (j k n : ℕ) → ((m : ℕ) → m < n + j → q m ≡ false) → kept q (from (j + k) n) ≡ kept q (from k (n + j))
    unfolding numbers kept
    none_pass zero k n h = rw (add-zero, zero-add)
    none_pass (suc j) k n h =
        let s : suc j + k ≡ suc (j + k) = omega arith in
        let e : n + suc j ≡ suc n + j = omega arith in
        rw (s, e) (go (p n) (none_pass j k (suc n) (λ m l. h m (omega arith))))
      where
        go : (t : Bool) → kept q (from (j + k) (suc n)) ≡ kept q (from k (suc n + j)) → kept q (cond t (n ∷ from (j + k) (suc n)) (from (j + k) (suc n))) ≡ kept q (from k (suc n + j))
        go true ih = rw (h n (omega arith)) ih
        go false ih = ih

    pub none_left : (n : ℕ) → kept q (from 0 n) ≡ []
    unfolding numbers kept
    none_left n = refl
