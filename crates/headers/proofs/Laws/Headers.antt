-- The headers that are left, one at a time, and headers without a vote.
-- Assumes nothing.
use mathlib.Core.Path.{◌≡◌, refl, sym}
use mathlib.Core.Bool.{Bool, true, false, cond, not}
use mathlib.Core.List.{List, [], ◌∷◌, ◌++◌}
use Prim.Native.Nat.{ℕ, suc, ◌+◌, ◌*◌, ◌/◌, ◌≤◌, ◌<◌}
use native.Mathlib.Numerals.{add-one, add-two, add-three}
use native.Mathlib.Omega.{arith}
use borrow.Author.Tests.{eqb-true}
use lib.Dec.{eqb}
use lib.ListN.{length, get_or, drop, length-drop}
use lib.Seq.{drop-cons}
use Rattle.std.specs.Prelude.{Ok, Err, ⊤}
use Rattle.codec.specs.declared.refusal.Refusal.{Refusal}
use Rattle.codec.specs.Check.{Check, passed}
use Rattle.counting.specs.Count.{count}
use Rattle.voting.specs.Header.{votes_in, fault_in, check_votes, check_header_votes}
use Rattle.voting.specs.Tally.{headers}
use Rattle.voting.proofs.Laws.Tests.{and-stop, and-pass}
use Rattle.headers.specs.Headers.{check_each}

-- the three bytes of the header at an index
abbrev pub header_at : List ℕ → ℕ → List ℕ
header_at s i = get_or s (3 * i) 0 ∷ get_or s (3 * i + 1) 0 ∷ get_or s (3 * i + 2) 0 ∷ []

pub drop-three : (s : List ℕ) (k : ℕ) → k + 2 < length s → drop k s ≡ get_or s k 0 ∷ get_or s (k + 1) 0 ∷ get_or s (k + 2) 0 ∷ drop (k + 3) s
drop-three s k h =
    let h₀ : k < length s = omega arith in
    let h₁ : suc k < length s = omega arith in
    let h₂ : suc (suc k) < length s = omega arith in
    rw (add-one, add-two, add-three, drop-cons s k 0 h₀, drop-cons s (suc k) 0 h₁, drop-cons s (suc (suc k)) 0 h₂)

pub few : (s : List ℕ) → length s < 3 → headers s ≡ []
unfolding headers
few [] h = refl
few (a ∷ []) h = refl
few (a ∷ b ∷ []) h = refl
few (a ∷ b ∷ c ∷ s) h = absurd (omega arith)

module _ (s : List ℕ) (i : ℕ) where
  headers-end : length s / 3 ≤ i → headers (drop (3 * i) s) ≡ []
  headers-end h = few (drop (3 * i) s) (omega (arith, length-drop (3 * i) s))

  headers-here : i < length s / 3 → headers (drop (3 * i) s) ≡ header_at s i ∷ headers (drop (3 * (i + 1)) s)
  unfolding headers
  headers-here h =
      let e : 3 * (i + 1) ≡ 3 * i + 3 = omega arith in
      rw (drop-three s (3 * i) (omega arith), e)

  pub checks-end : length s / 3 ≤ i → passed ≡ check_each (headers (drop (3 * i) s))
  unfolding check_each
  checks-end h = rw (headers-end h)

  pub checks-pass : i < length s / 3 → check_header_votes (header_at s i) ≡ passed → check_each (headers (drop (3 * (i + 1)) s)) ≡ check_each (headers (drop (3 * i) s))
  unfolding check_each
  checks-pass h z = rw (headers-here h) (sym (and-pass _ _ z))

-- no header in less than three bytes
pub checks-none : (s : List ℕ) → length s < 3 → passed ≡ check_each (headers s)
unfolding check_each
checks-none s h = rw (few s h)

-- the header in the first three bytes, and the bytes behind it
module _ (h rest : List ℕ) (three : length h ≡ 3) {all : List ℕ} (is_all : all ≡ h ++ rest) where
  pub headers-first : headers all ≡ (get_or h 0 0 ∷ get_or h 1 0 ∷ get_or h 2 0 ∷ []) ∷ headers rest
  unfolding headers
  headers-first = rw is_all (go h three)
    where
      go : (h : List ℕ) → length h ≡ 3 → headers (h ++ rest) ≡ (get_or h 0 0 ∷ get_or h 1 0 ∷ get_or h 2 0 ∷ []) ∷ headers rest
      go [] e = absurd (omega arith)
      go (a ∷ []) e = absurd (omega arith)
      go (a ∷ b ∷ []) e = absurd (omega arith)
      go (a ∷ b ∷ c ∷ []) e = refl
      go (a ∷ b ∷ c ∷ d ∷ s) e = absurd (omega arith)

  module _ {r : Check} (is-r : r ≡ check_header_votes (get_or h 0 0 ∷ get_or h 1 0 ∷ get_or h 2 0 ∷ [])) where
    pub check-stop : {e : Refusal} → r ≡ Err e → Err e ≡ check_each (headers all)
    unfolding check_each
    check-stop q = rw (headers-first, ← is-r) (sym (and-stop _ _ q))

    pub check-pass : {x : ⊤} → r ≡ Ok x → check_each (headers rest) ≡ check_each (headers all)
    unfolding check_each
    check-pass q = rw (headers-first, ← is-r) (sym (and-pass _ _ q))

-- without a vote every header is legal
no-vote : (x n : ℕ) → cond (not (eqb 0 x)) 1 0 + n ≡ 0 → x ≡ 0
no-vote x n z = go (eqb 0 x) refl z
  where
    go : (b : Bool) → eqb 0 x ≡ b → cond (not b) 1 0 + n ≡ 0 → x ≡ 0
    go true e z = sym (eqb-true 0 x e)
    go false e z = absurd (omega (arith, z))

none-legal : check_header_votes (0 ∷ 0 ∷ 0 ∷ []) ≡ passed
unfolding check_header_votes check_votes votes_in fault_in count
none-legal = refl

pub quiet-headers : (votes : List ℕ) → count (λ x. not (eqb 0 x)) votes ≡ 0 → passed ≡ check_each (headers votes)
unfolding check_each headers count
quiet-headers [] z = refl
quiet-headers (a ∷ []) z = refl
quiet-headers (a ∷ b ∷ []) z = refl
quiet-headers (a ∷ b ∷ c ∷ votes) z =
    let a₀ = no-vote a _ z in
    let b₀ = no-vote b (count (λ x. not (eqb 0 x)) (c ∷ votes)) (omega (arith, z)) in
    let c₀ = no-vote c (count (λ x. not (eqb 0 x)) votes) (omega (arith, z)) in
    rw (a₀, b₀, c₀, none-legal) (quiet-headers votes (omega (arith, z)))
