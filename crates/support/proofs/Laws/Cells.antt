-- A number added to the support of an id: which cell changes, and how.
-- Assumes nothing.
use Rattle.std.proofs.Common.{◌≡◌, ℕ, ◌+◌, ◌%◌, ◌<◌, Bool, true, false, cond, eqb, List, length, get_or, drop, set, sym, refl, ◌∙◌, arith, length-set, get_or-set_other, get_or-set_same, drop-set-lt, ne_eqb, eqb-true}
use borrow.Author.Tests.{eqb-false}
use Rattle.support.specs.Window.{added}

module _ (cells : List ℕ) (id n : ℕ) where
  -- what holds of the cells and of every store at the id
  by-added : (P : List ℕ → Type 0) → P cells → ((id ≡ 0 → ⊥) → (x : ℕ) → P (set cells id x)) → P (added cells id n)
  unfolding added
  by-added P same store = go (eqb id 0) refl
    where
      go : (t : Bool) → eqb id 0 ≡ t → P (cond t cells (set cells id ((get_or cells id 0 + n) % 65536)))
      go true e = same
      go false e = store (eqb-false id 0 e) _

  pub added-length : length (added cells id n) ≡ length cells
  added-length = by-added (λ s. length s ≡ length cells) refl (λ h x. length-set cells id x)

  pub added-drop : (m : ℕ) → id < m → drop m (added cells id n) ≡ drop m cells
  added-drop m l = by-added (λ s. drop m s ≡ drop m cells) refl (λ h x. drop-set-lt m cells id x l)

  -- the support of no vote stays
  pub added-zero : get_or (added cells id n) 0 0 ≡ get_or cells 0 0
  added-zero = by-added (λ s. get_or s 0 0 ≡ get_or cells 0 0) refl (λ h x. get_or-set_other cells id 0 x 0 (λ q. h (sym q)))

  -- the support of a vote
  added-here : (i : ℕ) → (i ≡ 0 → ⊥) → id < length cells → i ≡ id → get_or (added cells id n) i 0 ≡ (get_or cells i 0 + n) % 65536
  unfolding added
  added-here i h l q = rw (q, ne_eqb id 0 (λ z. h (q ∙ z))) (get_or-set_same cells id _ 0 l)

  pub added-at : (i : ℕ) → (i ≡ 0 → ⊥) → id < length cells → get_or cells i 0 < 65536 → get_or (added cells id n) i 0 ≡ (get_or cells i 0 + cond (eqb i id) n 0) % 65536
  added-at i h l low = go (eqb i id) refl
    where
      go : (t : Bool) → eqb i id ≡ t → get_or (added cells id n) i 0 ≡ (get_or cells i 0 + cond t n 0) % 65536
      go true e = added-here i h l (eqb-true i id e)
      go false e =
          let other : get_or (added cells id n) i 0 ≡ get_or cells i 0 = by-added (λ s. get_or s i 0 ≡ get_or cells i 0) refl (λ _ x. get_or-set_other cells id i x 0 (eqb-false i id e)) in
          other ∙ omega arith
