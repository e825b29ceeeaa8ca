-- The sizes of what is handed over in one list of bytes, from a position on.
-- Assumes nothing.
use Rattle.std.proofs.Common.{◌≡◌, ℕ, zero, suc, ◌+◌, ◌-◌, ◌*◌, ◌<◌, ◌≤◌, Bool, true, false, not, eqb, List, [], ◌∷◌, length, get_or, take, drop, refl, ap, mul-suc, add-one, arith, drop_of_length-le, drop-cons, ne_eqb}
use Rattle.std.specs.List.{list_any, All}
use Rattle.voting.proofs.Laws.Tests.{neither, eqb-iff, eqb_comm}
use Rattle.extension.specs.Section.{any}
use Rattle.extension.specs.Encode.{sum}

-- whether an element passes a test, in std's words
pub any-list : {A : Type 0} (p : A → Bool) (xs : List A) → any p xs ≡ list_any p xs
unfolding any
any-list p [] = refl
any-list p (x ∷ xs) = rw (any-list p xs)

pub any-none : {A : Type 0} (p : A → Bool) (xs : List A) → All (λ x. p x ≡ false) xs → any p xs ≡ false
unfolding any
any-none p [] h = refl
any-none p (x ∷ xs) h = rw (h 0 x (omega arith), any-none p xs (λ k d l. h (suc k) d (omega arith)))

-- where none passes a test that every larger size passes, each is at most the bound
module _ (p : ℕ → Bool) (k : ℕ) (most : (n : ℕ) → p n ≡ false → n ≤ k) where
  pub none_above : (ns : List ℕ) (i : ℕ) → any p ns ≡ false → get_or ns i 0 ≤ k
  unfolding any
  none_above [] i e = omega arith
  none_above (n ∷ ns) zero e = most n (neither (p n) (any p ns) e).0
  none_above (n ∷ ns) (suc i) e = none_above ns i (neither (p n) (any p ns) e).1

  -- and the sum is at most the bound for each
  pub sum-most : (ns : List ℕ) → any p ns ≡ false → sum ns ≤ k * length ns
  unfolding any sum
  sum-most [] e = omega arith
  sum-most (n ∷ ns) e =
      let b = neither (p n) (any p ns) e in
      let m : k * suc (length ns) ≡ k * length ns + k = mul-suc k (length ns) in
      omega (arith, m, most n b.0, sum-most ns b.1)

-- the sum of the sizes, from a position on
module _ (ns : List ℕ) (i : ℕ) where
  pub sum-end : length ns ≤ i → sum (drop i ns) ≡ 0
  unfolding sum
  sum-end h = rw (drop_of_length-le ns h)

  pub sum-here : i < length ns → sum (drop i ns) ≡ get_or ns i 0 + sum (drop (i + 1) ns)
  unfolding sum
  sum-here h = rw (drop-cons ns i 0 h, add-one)

-- the sum against a number, of which so much is left
module _ (ns : List ℕ) (i left : ℕ) where
  pub sum-none : length ns ≤ i → eqb (sum (drop i ns)) left ≡ eqb left 0
  sum-none h = rw (sum-end ns i h) (eqb_comm 0 left)

  module _ (h : i < length ns) where
    pub sum_over : left < get_or ns i 0 → eqb (sum (drop i ns)) left ≡ false
    sum_over l = ne_eqb (sum (drop i ns)) left (λ e. omega (arith, sum-here ns i h))

    pub sum-next : get_or ns i 0 ≤ left → eqb (sum (drop i ns)) left ≡ eqb (sum (drop (i + 1) ns)) (left - get_or ns i 0)
    sum-next l =
        let e = sum-here ns i h in
        eqb-iff (sum (drop i ns)) left (sum (drop (i + 1) ns)) (left - get_or ns i 0) (λ q. omega arith) (λ q. omega arith)

-- what a test of `!b` says of b
pub from-not : (b c : Bool) → not b ≡ c → b ≡ not c
from-not true c e = ap not e
from-not false c e = ap not e

pub take-most : (n : ℕ) (xs : List ℕ) → length (take n xs) ≤ n
take-most zero xs = omega arith
take-most (suc n) [] = omega arith
take-most (suc n) (x ∷ xs) = omega (arith, take-most n xs)
