-- Headers in lanes: sixteen lanes hold sixteen headers, and blocks of sixteen hold all.
-- Assumes nothing.
use mathlib.Core.Path.{◌≡◌, refl, sym, ap, ◌∙◌, subst}
use mathlib.Core.Bool.{Bool, true, false, cond, ◌&&◌, ◌||◌}
use mathlib.Core.List.{List, [], ◌∷◌, ◌++◌}
use Prim.Native.Nat.{ℕ, zero, suc, ◌+◌, ◌-◌, ◌*◌, ◌/◌, ◌%◌, ◌≤◌, ◌<◌}
use native.Mathlib.Numerals.{add-one}
use native.Mathlib.Omega.{arith}
use lib.Dec.{eqb, ltb}
use lib.ListN.{length, get_or, drop}
use borrow.Author.Tests.{eqb-true, eqb-false, ltb-true, ltb-false, eq-eqb, ne_eqb}
use denote.Param.Members.{Mut}
use Rattle.std.specs.Fn.{Called}
use Rattle.std.specs.Iterator.{Drains}
use Rattle.std.proofs.iter.Yields.{nat_range_steps}
use Rattle.std.proofs.lemmas.Fn.{fold_over}
use Rattle.std.proofs.lemmas.Iterator.{YieldsList-from_range}
use Rattle.std.specs.List.{FoldsTo, range_with_len}
use Rattle.std.proofs.lemmas.Grind.{common_steps}
use Rattle.std.proofs.lemmas.List.FromFn.{length-range_with_len, get_or-range_with_len}
use Rattle.std.specs.Prelude.{Ok, Err, is_err}
use Rattle.codec.specs.Check.{Check, passed}
use Rattle.voting.specs.Header.{check_header_votes}
use Rattle.voting.specs.Tally.{headers}
use Rattle.voting.proofs.Laws.Tests.{by-test, both, neither}
use Rattle.headers.specs.Headers.{check_each, check_headers}
use Rattle.headers.specs.Lanes.{Legal, Lane, turns, place, LegalBlock, LegalBelow}
use Rattle.headers.proofs.Laws.Headers.{checks-pass, checks-end}

-- a header that the predicate does not turn down
pub not-illegal : (r : Check) {b : Bool} → b ≡ is_err r → b ≡ false → r ≡ passed
not-illegal (Ok x) is-b q = refl
not-illegal (Err e) is-b q = cc

legal-here : (s : List ℕ) (i j : ℕ) → i ≡ j → Legal s i → Legal s j
legal-here s i j e = subst (Legal s) e

-- ---- a fold of what is found, over the numbers below n
module _ (P : ℕ → Type 0) where
  -- where nothing is found, P holds of each number
  abbrev NoneFound : List ℕ → Bool → Type 0
  NoneFound ks found = found ≡ false → (k d : ℕ) → k < length ks → P (get_or ks k d)

  none_more : (ks : List ℕ) (a b : Bool) (x : ℕ) → NoneFound ks a → (b ≡ false → (a ≡ false) × P x) → NoneFound (ks ++ (x ∷ [])) b
  none_more ks a b x h f e k d l =
      by-test (ltb k (length ks))
      (λ q. let i : k < length ks = ltb-true k (length ks) q in
      subst P (grind (arith, common_steps)) (h (f e).0 k d i))
      (λ q. let i : length ks ≤ k = ltb-false k (length ks) q in
      subst P (grind (arith, common_steps)) (f e).1)

  pub none-from_fold : {F : Type 0} (g : Mut F (Bool × (ℕ × Unit {0})) Bool) (f : F) (n : ℕ)
      → ((a : Bool) (x : ℕ) (b : Bool) (h : F) → Called g f (a, (x, tt)) b h → (b ≡ false → (a ≡ false) × P x) × (h ≡ f))
      → (found : Bool) → (ks : List ℕ) × (h : F) × Drains nat_range_steps (record { start = 0; end = n }) ks × FoldsTo {P = F × Bool} (λ p x q. Called g p.0 (p.1, (x, tt)) q.1 q.0) (f, false) ks (h, found)
      → found ≡ false → (i : ℕ) → i < n → P i
  none-from_fold g f n step found ran e i l =
      let all = range_with_len 0 n in
      let h : NoneFound all found = fold_over nat_range_steps (λ x. x) g NoneFound f (λ ks a x b h j k. (none_more ks a b x j (step a x b h k).0, (step a x b h k).1))
      _ all false found (YieldsList-from_range 0 n n refl (omega arith)).runs (λ e k d l. absurd (omega arith)) ran in
      subst P (omega (arith, get_or-range_with_len 0 n i 0 l)) (h e i 0 (omega (arith, length-range_with_len 0 n)))

-- ---- lanes
-- a legal header by other names
pub legal-at : {a b c x y z : ℕ} → a ≡ x → b ≡ y → c ≡ z → check_header_votes (a ∷ b ∷ c ∷ []) ≡ passed → check_header_votes (x ∷ y ∷ z ∷ []) ≡ passed
legal-at p q r h = rw (p, q, r) at h

-- a table by its rule
abbrev tabled : (ℕ → ℕ) → ℕ → ℕ → List ℕ
tabled f zero i = []
tabled f (suc n) i = f i ∷ tabled f n (suc i)

tabled-at : (f : ℕ → ℕ) (n i k : ℕ) → k < n → get_or (tabled f n i) k 0 ≡ f (i + k)
tabled-at f zero i k h = absurd (omega arith)
tabled-at f (suc n) i zero h = ap f (omega arith)
tabled-at f (suc n) i (suc k) h = tabled-at f n (suc i) k (omega arith) ∙ ap f (omega arith)

abbrev mask : ℕ → ℕ → ℕ
mask r l = cond (eqb (l % 3) r) 255 0

abbrev pub masks : ℕ → List ℕ
masks r = tabled (mask r) 16 0

module _ (r l : ℕ) (h : l < 16) where
  mask_at : get_or (masks r) l 0 ≡ mask r l
  mask_at = tabled-at (mask r) 16 0 l h ∙ ap (mask r) (omega arith)

  mask-on : l % 3 ≡ r → get_or (masks r) l 0 ≡ 255
  mask-on e = mask_at ∙ rw (eq-eqb (l % 3) r e)

  mask-off : (l % 3 ≡ r → ⊥) → get_or (masks r) l 0 ≡ 0
  mask-off d = mask_at ∙ rw (ne_eqb (l % 3) r d)

module _ (s : List ℕ) (at l : ℕ) (h : l < 16) where
  lane_place : (r : ℕ) → l % 3 ≡ r → (k : ℕ) → k ≡ at + (l + 16 * turns r) → Legal s k → Legal s (at + place l)
  lane_place r q k e = subst (Legal s) (e ∙ ap (λ (x : ℕ). at + (l + 16 * turns x)) (sym q))

  pub lane-legal : Lane s (at + l) (get_or (masks 0) l 0) (get_or (masks 2) l 0) (get_or (masks 1) l 0) → Legal s (at + place l)
  lane-legal k =
      by-test (eqb (l % 3) 0)
      (λ e. let q = eqb-true (l % 3) 0 e in
      lane_place 0 q (at + l) (omega arith) (k.first (mask-on 0 l h q) (mask-off 2 l h (λ z. omega (arith, q, z))) (mask-off 1 l h (λ z. omega (arith, q, z)))))
      (λ d. by-test (eqb (l % 3) 2)
      (λ e. let q = eqb-true (l % 3) 2 e in
      lane_place 2 q (at + l + 16) (omega arith) (k.second (mask-off 0 l h (λ z. omega (arith, q, z))) (mask-on 2 l h q) (mask-off 1 l h (λ z. omega (arith, q, z)))))
      (λ e. let q : l % 3 ≡ 1 = rest (l % 3) (omega arith) (eqb-false (l % 3) 0 d) (eqb-false (l % 3) 2 e) in
      lane_place 1 q (at + l + 32) (omega arith) (k.third (mask-off 0 l h (λ z. omega (arith, q, z))) (mask-off 2 l h (λ z. omega (arith, q, z))) (mask-on 1 l h q))))
    where
      rest : (x : ℕ) → x < 3 → (x ≡ 0 → ⊥) → (x ≡ 2 → ⊥) → x ≡ 1
      rest zero h p q = absurd (p refl)
      rest (suc zero) h p q = refl
      rest (suc (suc zero)) h p q = absurd (q refl)
      rest (suc (suc (suc x))) h p q = absurd (omega arith)

-- a test that every number below a bound passes, by computing
abbrev all-below : (ℕ → Bool) → ℕ → Bool
all-below f zero = true
all-below f (suc n) = f n && all-below f n

below : (f : ℕ → Bool) (n : ℕ) → all-below f n ≡ true → (k : ℕ) → k < n → f k ≡ true
below f zero e k h = absurd (omega arith)
below f (suc n) e k h =
    let w = both (f n) (all-below f n) e in
    by-test (eqb k n) (λ q. ap f (eqb-true k n q) ∙ w.0) (λ q. below f n w.1 k (omega (arith, eqb-false k n q)))

-- header i of a block is in lane 3 * i % 16
lane_of : (i : ℕ) → i < 16 → place ((3 * i) % 16) ≡ 3 * i
lane_of i h = eqb-true (place ((3 * i) % 16)) (3 * i) (below (λ k. eqb (place ((3 * k) % 16)) (3 * k)) 16 refl i h)

block-header : (s : List ℕ) (at : ℕ) → LegalBlock s at → (i : ℕ) → i < 16 → Legal s (at + 3 * i)
block-header s at f i h = subst (λ (k : ℕ). Legal s (at + k)) (lane_of i h) (f ((3 * i) % 16) (omega arith))

-- ---- all headers
-- a header of a block that begins at another header
in_block : (s : List ℕ) (from : ℕ) → LegalBlock s (3 * from) → (i : ℕ) → from ≤ i → i < from + 16 → Legal s (3 * i)
in_block s from f i h k = legal-here s (3 * from + 3 * (i - from)) (3 * i) (omega arith) (block-header s (3 * from) f (i - from) (omega arith))

-- sixteen headers of each block are all
pub legal_blocks : (s : List ℕ) (n : ℕ) → ((k : ℕ) → k < n → LegalBlock s (48 * k)) → LegalBelow s (16 * n)
legal_blocks s n f i h = in_block s (16 * (i / 16)) (subst (LegalBlock s) (omega arith) (f (i / 16) (omega arith))) i (omega arith) (omega arith)

-- where the first headers are legal, those that are left give what all give
first-legal : (s : List ℕ) (n : ℕ) → n ≤ length s / 3 → LegalBelow s n → check_each (headers (drop (3 * n) s)) ≡ check_each (headers s)
first-legal s zero h f = refl
first-legal s (suc n) h f =
    rw (sym (add-one n)) (checks-pass s n (omega arith) (f n (omega arith)))
    ∙ first-legal s n (omega arith) (λ i k. f i (omega arith))

pub all-legal : (s : List ℕ) → LegalBelow s (length s / 3) → passed ≡ check_headers s
unfolding check_headers
all-legal s f = checks-end s (length s / 3) (omega arith) ∙ first-legal s (length s / 3) (omega arith) f

-- the blocks, the one that is laid over the end, and the last header
pub three-parts : (s : List ℕ) (n : ℕ) → n ≡ length s / 3 → 17 ≤ n → (p q r : Bool) → (p ≡ false → LegalBelow s (16 * ((n - 1) / 16))) → (q ≡ false → LegalBlock s (3 * (n - 17))) → (r ≡ false → Legal s (3 * (n - 1)))
    → (p || q) || r ≡ false → passed ≡ check_headers s
three-parts s n is-n h p q r blocks over last e =
    let v = neither (p || q) r e in
    let w = neither p q v.0 in
    all-legal s (λ i k.
    by-test (ltb i (n - 17))
    (λ t. blocks w.0 i (omega (arith, ltb-true i (n - 17) t)))
    (λ t. by-test (eqb i (n - 1))
    (λ u. legal-here s (3 * (n - 1)) (3 * i) (omega (arith, eqb-true i (n - 1) u)) (last v.1))
    (λ u. in_block s (n - 17) (over w.1) i (ltb-false i (n - 17) t) (omega (arith, eqb-false i (n - 1) u)))))
