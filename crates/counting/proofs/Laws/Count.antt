-- Counts: how large they are, of a list joined to another, and as std counts.
-- Assumes nothing.
use mathlib.Core.Path.{◌≡◌, refl, sym, ap, ◌∙◌}
use mathlib.Core.Bool.{Bool, true, false, not, cond}
use mathlib.Core.List.{List, [], ◌∷◌, ◌++◌}
use Prim.Native.Nat.{ℕ, zero, suc, ◌+◌, ◌-◌, ◌≤◌}
use native.Mathlib.Omega.{arith}
use Rattle.std.specs.List.{count_by}
use Rattle.std.proofs.Math.Nat.{min-le_left}
use Rattle.std.proofs.lemmas.List.{length-take, take-append-drop, drop-drop}
use Rattle.std.proofs.lemmas.List.Recursion.{is_count_by}
use lib.Dec.{ltb}
use lib.ListN.{length, take, drop}
use borrow.Author.Tests.{ltb-false, lt-ltb, le-ltb}
use Rattle.counting.specs.Count.{count}

pub count_most : {A : Type 0} (p : A → Bool) (xs : List A) → count p xs ≤ length xs
unfolding count
count_most p [] = omega arith
count_most p (x ∷ xs) = let ih = count_most p xs in go (p x) ih
  where
    go : (t : Bool) → count p xs ≤ length xs → cond t 1 0 + count p xs ≤ suc (length xs)
    go true h = omega arith
    go false h = omega arith

pub count-append : {A : Type 0} (p : A → Bool) (xs ys : List A) → count p (xs ++ ys) ≡ count p xs + count p ys
unfolding count
count-append p [] ys = omega arith
count-append p (x ∷ xs) ys = omega (arith, count-append p xs ys)

-- from a position on: among the next n, and behind them
pub count-from : {A : Type 0} (p : A → Bool) (s : List A) (at n : ℕ) → count p (take n (drop at s)) + count p (drop (at + n) s) ≡ count p (drop at s)
count-from {A} p s at n =
    ap (λ (xs : List A). count p (take n (drop at s)) + count p xs) (sym (drop-drop n at s)) ∙ sym (count-append p (take n (drop at s)) (drop n (drop at s)))
    ∙ ap (count p) (take-append-drop n (drop at s))

-- the count of a slice, up to `end`: it is at most the slice's length, and with what is behind it the count from where it begins
module _ {A : Type 0} (p : A → Bool) (s : List A) (at end : ℕ) {m : ℕ} (is : m ≡ count p (take (end - at) (drop at s))) where
  pub slice_most : m ≤ end - at
  slice_most = omega (arith, is, count_most p (take (end - at) (drop at s)), length-take (end - at) (drop at s), min-le_left (end - at) (length (drop at s)))

  pub slice-counted : (next : ℕ) → at + (end - at) ≡ next → m + count p (drop next s) ≡ count p (drop at s)
  slice-counted next e = ap (λ (n : ℕ). m + count p (drop n s)) (sym e) ∙ ap (λ (n : ℕ). n + count p (drop (at + (end - at)) s)) is ∙ count-from p s at (end - at)

-- what passes a test, and what does not, are all
pub count-others : {A : Type 0} (p : A → Bool) (xs : List A) → count p xs + count (λ x. not (p x)) xs ≡ length xs
unfolding count
count-others p [] = omega arith
count-others p (x ∷ xs) = let ih = count-others p xs in go (p x) ih
  where
    go : (t : Bool) → count p xs + count (λ x. not (p x)) xs ≡ length xs → cond t 1 0 + count p xs + (cond (not t) 1 0 + count (λ x. not (p x)) xs) ≡ suc (length xs)
    go true h = omega arith
    go false h = omega arith

more : (m k n : ℕ) → m + k ≡ n → ltb m n ≡ ltb 0 k
more m zero n e = le-ltb m n (omega arith)
more m (suc k) n e = lt-ltb m n (omega arith) ∙ sym (lt-ltb 0 (suc k) (omega arith))

-- so something does not pass where fewer than all do
pub count_less : {A : Type 0} (p : A → Bool) (xs : List A) → ltb (count p xs) (length xs) ≡ ltb 0 (count (λ x. not (p x)) xs)
count_less p xs = more (count p xs) (count (λ x. not (p x)) xs) (length xs) (count-others p xs)

-- a test whether something passes that says no
pub count_none : {A : Type 0} (p : A → Bool) (xs : List A) {r : Bool} → r ≡ ltb 0 (count p xs) → r ≡ false → count p xs ≡ 0
count_none p xs e q = omega (arith, ltb-false 0 (count p xs) (sym e ∙ q))

-- std counts alike
pub count-is_count_by : {A : Type 0} (p : A → Bool) (xs : List A) → count p xs ≡ count_by p xs
unfolding count
count-is_count_by p xs = is_count_by (count p) p refl (λ x ys. grind arith) xs
