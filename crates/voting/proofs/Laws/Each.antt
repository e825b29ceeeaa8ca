-- Statements of every element of a list, and of every two.
-- Assumes nothing.
use Rattle.std.proofs.Common.{ℕ, zero, suc, List, [], ◌∷◌, take, drop}
use Rattle.voting.specs.Common.{Each, Pairwise}

module _ {A : Type 0} where
  -- turned into another
  pub each : (P Q : A → Type 0) → ((x : A) → P x → Q x) → (xs : List A) → Each P xs → Each Q xs
  each P Q f [] h = h
  each P Q f (x ∷ xs) h = (f x h.0, each P Q f xs h.1)

  pub pairwise : (R S : A → A → Type 0) → ((x y : A) → R x y → S x y) → (xs : List A) → Pairwise R xs → Pairwise S xs
  pairwise R S f [] h = h
  pairwise R S f (x ∷ xs) h = (each (R x) (S x) (f x) xs h.0, pairwise R S f xs h.1)

  -- so of anything, and of a part
  pub each_of : (P : A → Type 0) → ((x : A) → P x) → (xs : List A) → Each P xs
  each_of P f [] = tt
  each_of P f (x ∷ xs) = (f x, each_of P f xs)

  pub each_take : (P : A → Type 0) (n : ℕ) (xs : List A) → Each P xs → Each P (take n xs)
  each_take P zero xs h = tt
  each_take P (suc n) [] h = tt
  each_take P (suc n) (x ∷ xs) h = (h.0, each_take P n xs h.1)

  pub each-drop : (P : A → Type 0) (n : ℕ) (xs : List A) → Each P xs → Each P (drop n xs)
  each-drop P zero xs h = h
  each-drop P (suc n) [] h = tt
  each-drop P (suc n) (x ∷ xs) h = each-drop P n xs h.1
