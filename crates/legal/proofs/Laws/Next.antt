-- The first legal number from one on, by what the search tested; the first above three bytes; and all of them by asking again and again.
-- Assumes nothing.
use mathlib.Core.Path.{◌≡◌, refl, sym, ap, ◌∙◌, subst}
use mathlib.Core.Bool.{Bool, true, false, not, cond}
use mathlib.Core.List.{List, [], ◌∷◌, ◌++◌}
use Prim.Native.Nat.{ℕ, zero, suc, ◌+◌, ◌-◌, ◌/◌, ◌%◌, ◌≤◌, ◌<◌}
use native.Mathlib.Omega.{arith}
use lib.Dec.{eqb, ltb, leb}
use borrow.Author.Tests.{eqb-true, eq-eqb, ne_eqb, lt-ltb, le-ltb, le-leb, lt-leb, leb-true, leb-false}
use Rattle.std.specs.Prelude.{Ok, Err, is_ok, is_err, Option, Some, None}
use Rattle.codec.specs.Check.{Check, passed}
use Rattle.counting.specs.Count.{count}
use Rattle.voting.specs.Header.{votes_in, fault_in, check_votes, check_header_votes}
use Rattle.legal.specs.declared.next.Votes.{Votes}
use Rattle.legal.specs.Legal.{number, bytes_of, legal, numbers, kept, total, all_legal, first_of, next_legal_votes, Legal, Next, asked, ListsAll, votes}
use Rattle.legal.specs.Search.{legal_from, first_or, first_from, votes_at, position_of, step_of}
use Rattle.legal.proofs.Laws.Votes.{legal-front}
use Rattle.legal.proofs.Laws.Lists.{First, passes, skips, first, none, all_pass, none_pass, none_left}

-- ---- the legal numbers from n on

starts : (n : ℕ) → n < total → legal n ≡ true → legal_from n ≡ n ∷ legal_from (suc n)
unfolding legal_from
starts n h e =
    let s : total - n ≡ suc (total - suc n) = omega arith in
    rw s (passes legal (total - suc n) n e)

skipped : (j n : ℕ) → n + j ≤ total → ((m : ℕ) → n ≤ m → m < n + j → legal m ≡ false) → legal_from n ≡ legal_from (n + j)
unfolding legal_from
skipped j n h f =
    let s : total - n ≡ j + (total - (n + j)) = omega arith in
    rw s (skips legal j (total - (n + j)) n f)

pub ended : (n : ℕ) → total ≤ n → legal_from n ≡ []
unfolding legal_from numbers kept
ended n h = let s : total - n ≡ 0 = omega arith in rw s

first-legal : (n q : ℕ) (qs : List ℕ) → legal_from n ≡ q ∷ qs → First legal (total - n) n q qs
unfolding legal_from
first-legal n q qs e = first legal (total - n) n q qs e

none-legal : (n : ℕ) → legal_from n ≡ [] → (m : ℕ) → n ≤ m → m < total → legal m ≡ false
unfolding legal_from
none-legal n e m l g = none legal (total - n) n e m l (omega arith)

first_below : (n q : ℕ) (qs : List ℕ) → legal_from n ≡ q ∷ qs → q < total
first_below n q qs e = let f = first-legal n q qs e in omega (arith, f.above, f.below)

-- what comes after the first; and the same list from the first on
pub after_first : (n q : ℕ) (qs : List ℕ) → legal_from n ≡ q ∷ qs → qs ≡ legal_from (suc q)
unfolding legal_from
after_first n q qs e =
    let f = first legal (total - n) n q qs e in
    let s : total - n + n - suc q ≡ total - suc q = omega (arith, f.above, f.below) in
    f.after ∙ ap (λ (k : ℕ). kept legal (numbers k (suc q))) s

pub from_first : (n q : ℕ) (qs : List ℕ) → legal_from n ≡ q ∷ qs → legal_from q ≡ q ∷ qs
from_first n q qs e =
    starts q (first_below n q qs e) (first-legal n q qs e).passed ∙ ap (λ (l : List ℕ). q ∷ l) (sym (after_first n q qs e))

-- ---- all legal numbers that pass a test: those from a number on

module _ (q : ℕ → Bool) (n : ℕ) (low : (m : ℕ) → m < n → q m ≡ false) (high : (m : ℕ) → n ≤ m → q m ≡ true) where
  inside : n ≤ total → kept q all_legal ≡ legal_from n
  unfolding all_legal legal_from
  inside h =
      let s : total ≡ n + (total - n) = omega arith in
      let z : 0 + n ≡ n = omega arith in
      ap (λ (k : ℕ). kept q (kept legal (numbers k 0))) s
      ∙ none_pass legal q n (total - n) 0 (λ m l. low m (omega arith))
      ∙ ap (λ (m : ℕ). kept q (kept legal (numbers (total - n) m))) z
      ∙ all_pass legal q (total - n) n high

  outside : total < n → kept q all_legal ≡ legal_from n
  unfolding all_legal
  outside h =
      let s : total ≡ total + 0 = omega arith in
      ap (λ (k : ℕ). kept q (kept legal (numbers k 0))) s
      ∙ none_pass legal q total 0 0 (λ m l. low m (omega arith))
      ∙ none_left legal q (0 + total)
      ∙ sym (ended n (omega arith))

  pub kept_from : kept q all_legal ≡ legal_from n
  kept_from = go (leb n total) refl
    where
      go : (b : Bool) → leb n total ≡ b → kept q all_legal ≡ legal_from n
      go true e = inside (leb-true n total e)
      go false e = outside (leb-false n total e)

pub at_least : (n : ℕ) → kept (leb n) all_legal ≡ legal_from n
at_least n = kept_from (leb n) n (λ m h. lt-leb n m h) (λ m h. le-leb n m h)

pub more-than : (n : ℕ) → kept (ltb n) all_legal ≡ legal_from (n + 1)
more-than n = kept_from (ltb n) (n + 1) (λ m h. le-ltb n m (omega arith)) (λ m h. lt-ltb n m (omega arith))

-- ---- what a check's test says

ok-passed : (r : Check) → is_ok r ≡ true → r ≡ passed
ok-passed (Ok x) e = refl
ok-passed (Err n) e = cc

not_ok : (r : Check) → is_ok r ≡ false → r ≡ passed → ⊥
not_ok (Ok x) e q = cc
not_ok (Err n) e q = cc

refused_ok : (r : Check) → (r ≡ passed → ⊥) → is_ok r ≡ false
refused_ok (Ok x) h = absurd (h refl)
refused_ok (Err n) h = refl

other-test : (r : Check) → not (is_err r) ≡ is_ok r
other-test (Ok x) = refl
other-test (Err n) = refl

-- ---- bytes and numbers

bytes-number : (a b c n : ℕ) → b < 256 → c < 256 → n ≡ number a b c → (n / 65536 ≡ a) × (n / 256 % 256 ≡ b) × (n % 256 ≡ c)
bytes-number a b c n hb hc e = (omega arith, omega arith, omega arith)

legal-is : (a b c n : ℕ) → b < 256 → c < 256 → n ≡ number a b c → legal n ≡ is_ok (check_header_votes (a ∷ b ∷ c ∷ []))
unfolding legal bytes_of
legal-is a b c n hb hc e =
    let f = bytes-number a b c n hb hc e in
    rw (f.0, f.1, f.2)

was-legal : (a b c n : ℕ) → b < 256 → c < 256 → n ≡ number a b c → legal n ≡ true → Legal a b c
was-legal a b c n hb hc e l = ok-passed (check_header_votes (a ∷ b ∷ c ∷ [])) (sym (legal-is a b c n hb hc e) ∙ l)

was-illegal : (a b c n : ℕ) → b < 256 → c < 256 → n ≡ number a b c → legal n ≡ false → Legal a b c → ⊥
was-illegal a b c n hb hc e l = not_ok (check_header_votes (a ∷ b ∷ c ∷ [])) (sym (legal-is a b c n hb hc e) ∙ l)

-- the test of the header check
pub legal-test : (n : ℕ) (r : Bool) → r ≡ is_err (check_header_votes (n / 65536 ∷ n / 256 % 256 ∷ n % 256 ∷ [])) → not r ≡ legal n
unfolding legal bytes_of
legal-test n r e = ap not e ∙ other-test (check_header_votes (n / 65536 ∷ n / 256 % 256 ∷ n % 256 ∷ []))

-- ---- the search: a legal number, or numbers that are skipped

-- a number that begins as another and has no votes after that is legal if the other is
fronts : (n m : ℕ) (xs ys zs : List ℕ) → bytes_of m ≡ xs ++ ys → bytes_of n ≡ xs ++ zs → votes_in zs ≡ [] → legal n ≡ false → legal m ≡ false
unfolding legal
fronts n m xs ys zs p q e l =
    refused_ok (check_header_votes (bytes_of m))
    (λ h. not_ok (check_header_votes (bytes_of n)) l (ap check_header_votes q ∙ legal-front xs ys zs e (ap check_header_votes (sym p) ∙ h)))

skip_block : (n : ℕ) → n < total → legal n ≡ false → n % 65536 ≡ 0 → (m : ℕ) → n ≤ m → m < n + 65536 → legal m ≡ false
unfolding bytes_of votes_in
skip_block n h l e m g k =
    let a : m / 65536 ≡ n / 65536 = omega arith in
    let b : n / 256 % 256 ≡ 0 = omega arith in
    let c : n % 256 ≡ 0 = omega arith in
    fronts n m (n / 65536 ∷ []) (m / 256 % 256 ∷ m % 256 ∷ []) (0 ∷ 0 ∷ []) (rw a) (rw (b, c)) refl l

skip-row : (n : ℕ) → n < total → legal n ≡ false → n % 256 ≡ 0 → (m : ℕ) → n ≤ m → m < n + 256 → legal m ≡ false
unfolding bytes_of votes_in
skip-row n h l e m g k =
    let a : m / 65536 ≡ n / 65536 = omega arith in
    let b : m / 256 % 256 ≡ n / 256 % 256 = omega arith in
    fronts n m (n / 65536 ∷ n / 256 % 256 ∷ []) (m % 256 ∷ []) (0 ∷ []) (rw (a, b)) (rw e) refl l

skip-one : (n : ℕ) → legal n ≡ false → (m : ℕ) → n ≤ m → m < n + 1 → legal m ≡ false
skip-one n l m g k = let e : n ≡ m = omega arith in subst (λ (i : ℕ). legal i ≡ false) e l

pub skips-step : (n : ℕ) → n < total → legal n ≡ false → legal_from n ≡ legal_from (n + step_of n)
unfolding step_of
skips-step n h l = go (eqb (n % 65536) 0) (eqb (n % 256) 0) refl refl
  where
    go : (s t : Bool) → eqb (n % 65536) 0 ≡ s → eqb (n % 256) 0 ≡ t → legal_from n ≡ legal_from (n + cond s 65536 (cond t 256 1))
    go true t p q = let e = eqb-true (n % 65536) 0 p in skipped 65536 n (omega (arith, e)) (skip_block n h l e)
    go false true p q = let e = eqb-true (n % 256) 0 q in skipped 256 n (omega (arith, e)) (skip-row n h l e)
    go false false p q = skipped 1 n (omega arith) (skip-one n l)

pub step-some : (n : ℕ) → (1 ≤ step_of n) × (step_of n ≤ 65536)
unfolding step_of
step-some n = go (eqb (n % 65536) 0) (eqb (n % 256) 0)
  where
    go : (s t : Bool) → (1 ≤ cond s 65536 (cond t 256 1)) × (cond s 65536 (cond t 256 1) ≤ 65536)
    go true t = (omega arith, omega arith)
    go false true = (omega arith, omega arith)
    go false false = (omega arith, omega arith)

-- the step by its tests
module _ (n : ℕ) where
  pub step_block : n % 65536 ≡ 0 → 65536 ≡ step_of n
  unfolding step_of
  step_block e = rw (eq-eqb _ _ e)

  module _ (f : n % 65536 ≡ 0 → ⊥) where
    pub step_row : n % 256 ≡ 0 → 256 ≡ step_of n
    unfolding step_of
    step_row e = rw (ne_eqb _ _ f, eq-eqb _ _ e)

    pub step-one : (n % 256 ≡ 0 → ⊥) → 1 ≡ step_of n
    unfolding step_of
    step-one g = rw (ne_eqb _ _ f, ne_eqb _ _ g)

-- the bytes of a number
pub votes-none : (n : ℕ) → total ≤ n → None ≡ votes_at n
unfolding votes_at
votes-none n h = rw (le-ltb n total h)

pub votes-some : (n : ℕ) → n < total → Some (votes (n / 65536) (n / 256 % 256) (n % 256)) ≡ votes_at n
unfolding votes_at
votes-some n h = rw (lt-ltb n total h)

-- a position's number
pub position-votes : (at : Option Votes) (v : Votes) (n : ℕ) → at ≡ Some v → n ≡ number v.0 v.1 v.2 → n ≡ position_of at
unfolding position_of
position-votes at v n q e = rw (q, e)

pub position-none : (at : Option Votes) → at ≡ None → total ≡ position_of at
unfolding position_of
position-none at q = rw q

pub finds : (n m : ℕ) → legal_from m ≡ legal_from n → m < total → legal m ≡ true → m ≡ first_from n
unfolding first_from first_or
finds n m e h l = ap first_or (sym (starts m h l) ∙ e)

pub finds-none : (n m : ℕ) → legal_from m ≡ legal_from n → total ≤ m → total ≡ first_from n
unfolding first_from first_or
finds-none n m e h = ap first_or (sym (ended m h) ∙ e)

-- ---- the first legal number from one on, and the list

-- a list from n on is empty, and the first is 2^24; or the first heads it
pub record Head (n q : ℕ) : Type 0 where
  pub same : legal_from q ≡ legal_from n
  pub first : first_of (legal_from n) ≡ votes_at q
  pub goes_on : q < total → legal_from q ≡ q ∷ legal_from (suc q)

pub head : (n : ℕ) → Head n (first_from n)
unfolding first_from first_or first_of votes_at
head n = go (legal_from n) refl
  where
    go : (l : List ℕ) → legal_from n ≡ l → Head n (first_or l)
    go [] e = record {
      same = ended total (omega arith) ∙ sym e;
      first = ap first_of e;
      goes_on = λ h. absurd (omega arith);
    }
    go (q ∷ qs) e = record {
      same = from_first n q qs e ∙ sym e;
      first = ap first_of e ∙ rw (lt-ltb q total (first_below n q qs e));
      goes_on = λ h. from_first n q qs e ∙ ap (λ (l : List ℕ). q ∷ l) (after_first n q qs e);
    }

-- ---- the first above three bytes

pub next-is : (a b c : ℕ) → next_legal_votes a b c ≡ first_of (legal_from (number a b c + 1))
unfolding next_legal_votes
next-is a b c = ap first_of (more-than (number a b c))

pub next-found : (a b c n : ℕ) → n ≡ number a b c → votes_at (first_from (n + 1)) ≡ next_legal_votes a b c
next-found a b c n e = ap (λ (m : ℕ). votes_at (first_from (m + 1))) e ∙ sym (next-is a b c ∙ (head (number a b c + 1)).first)

-- what it means
next-means : (n : ℕ) (qs : List ℕ) → legal_from (n + 1) ≡ qs → Next n (first_of qs)
unfolding first_of
next-means n [] e = λ x y z hx hy hz l g. was-illegal x y z (number x y z) hy hz refl (none-legal (n + 1) e (number x y z) (omega arith) (omega arith)) l
next-means n (q ∷ qs) e =
    let f = first-legal (n + 1) q qs e in
    let s : number (q / 65536) (q / 256 % 256) (q % 256) ≡ q = omega arith in (
      was-legal (q / 65536) (q / 256 % 256) (q % 256) q (omega arith) (omega arith) (sym s) f.passed,
      omega (arith, f.above),
      λ x y z hx hy hz l g k. was-illegal x y z (number x y z) hy hz refl (f.before (number x y z) (omega arith) (omega arith)) l,
    )

pub next-right : (a b c : ℕ) → Next (number a b c) (next_legal_votes a b c)
next-right a b c = subst (Next (number a b c)) (sym (next-is a b c)) (next-means (number a b c) (legal_from (number a b c + 1)) refl)

-- ---- asked again and again

next-of : (q : ℕ) → next_legal_votes (q / 65536) (q / 256 % 256) (q % 256) ≡ first_of (legal_from (suc q))
next-of q =
    let s : number (q / 65536) (q / 256 % 256) (q % 256) + 1 ≡ suc q = omega arith in
    next-is (q / 65536) (q / 256 % 256) (q % 256) ∙ ap (λ (n : ℕ). first_of (legal_from n)) s

asked-from : (k n : ℕ) (qs : List ℕ) → legal_from n ≡ qs → total ≤ n + k → asked next_legal_votes k (first_of qs) ≡ qs
unfolding asked first_of
asked-from zero n qs e h = sym (ended n (omega arith)) ∙ e
asked-from (suc k) n [] e h = refl
asked-from (suc k) n (q ∷ qs) e h =
    let f = first-legal n q qs e in
    let s : number (q / 65536) (q / 256 % 256) (q % 256) ≡ q = omega arith in
    let t : legal_from (suc q) ≡ qs = sym (after_first n q qs e) in
    let ih : asked next_legal_votes k (first_of qs) ≡ qs = asked-from k (suc q) qs t (omega (arith, f.above)) in
    rw (s, next-of q, t, ih)

pub from_zero : legal_from 0 ≡ all_legal
unfolding legal_from all_legal
from_zero = refl

-- 0 is legal, and the first
zero-legal : legal 0 ≡ true
unfolding legal bytes_of check_header_votes check_votes votes_in fault_in count
zero-legal = refl

zero-first : first_of (legal_from 0) ≡ Some (votes 0 0 0)
unfolding first_of
zero-first = ap first_of (starts 0 (omega arith) zero-legal)

pub lists-all : ListsAll
lists-all k h = ap (asked next_legal_votes k) (sym zero-first) ∙ asked-from k 0 (legal_from 0) refl (omega arith) ∙ from_zero
