-- A list, element by element.
-- Assumes nothing.
use Rattle.std.proofs.Common.{◌≡◌, ℕ, zero, suc, List, [], ◌∷◌, length, get_or, refl, ap, ◌∙◌, arith}

-- the n elements from index k on
abbrev pub elements : ℕ → ℕ → List ℕ → List ℕ
elements zero k xs = []
elements (suc n) k xs = get_or xs k 0 ∷ elements n (suc k) xs

shifted : (n k x : ℕ) (xs : List ℕ) → elements n (suc k) (x ∷ xs) ≡ elements n k xs
shifted zero k x xs = refl
shifted (suc n) k x xs = ap (λ (ys : List ℕ). get_or xs k 0 ∷ ys) (shifted n (suc k) x xs)

-- all of them are the list
pub all-elements : (n : ℕ) (xs : List ℕ) → length xs ≡ n → elements n 0 xs ≡ xs
all-elements zero [] l = refl
all-elements zero (x ∷ xs) l = absurd (omega arith)
all-elements (suc n) [] l = absurd (omega arith)
all-elements (suc n) (x ∷ xs) l = ap (λ (ys : List ℕ). x ∷ ys) (shifted n 0 x xs ∙ all-elements n xs (omega arith))
