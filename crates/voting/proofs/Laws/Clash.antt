-- A header's votes judged by tests of its three bytes: two that clash, one that is its own negation, three that are ordinary.
-- Assumes nothing.
use Rattle.std.proofs.Common.{◌≡◌, ℕ, zero, suc, ◌+◌, ◌-◌, ◌%◌, ◌<◌, ◌≤◌, Bool, true, false, cond, not, ◌&&◌, ◌||◌, eqb, ltb, List, [], ◌∷◌, pos, negsuc, neg_ℤ, sym, refl, ap, ◌∙◌, true≢false, arith, ltb-false, ltb-true, lt-ltb, eq-eqb, ne_eqb, eqb-true}
use borrow.Author.Tests.{eqb-false}
use Rattle.std.specs.Prelude.{is_err}
use Rattle.codec.specs.Check.{passed}
use Rattle.codec.specs.Signed.{modulo, bits_of, signed_of}
use Rattle.counting.specs.Count.{count}
use Rattle.voting.specs.Common.{eq_z, Bytes}
use Rattle.voting.specs.Header.{soft_fork_vote, votes_in, negation, check_header_votes, votes_for}
use Rattle.voting.proofs.Laws.Tests.{by-test, neither, by-answer, and-pass}
use Rattle.voting.proofs.Laws.Integers.{eq_z-same}
use Rattle.voting.proofs.Laws.Header.{byte-check, negation-bits, negation-id, vote-fine, three-checks, legal-few, legal-once, legal-apart}

-- the byte of the negation of a vote
negation-byte : (v : ℕ) → v < 256 → (v ≡ 0 → ⊥) → bits_of 8 (negation (signed_of 8 v)) ≡ 256 - v
unfolding bits_of modulo signed_of
negation-byte v h n = negation-bits (signed_of 8 v) ∙ go (ltb v 128) refl
  where
    low : (v : ℕ) → v < 128 → (v ≡ 0 → ⊥) → modulo 256 (neg_ℤ (pos v)) ≡ 256 - v
    low zero h n = absurd (n refl)
    low (suc k) h n = omega arith

    go : (t : Bool) → ltb v 128 ≡ t → modulo 256 (neg_ℤ (cond t (pos v) (negsuc (256 - suc v)))) ≡ 256 - v
    go true k = low v (ltb-true v 128 k) n
    go false k = omega (arith, ltb-false v 128 k)

-- the same byte, or the byte of the negation
abbrev clash : ℕ → ℕ → Bool
clash x y = eqb x y || eqb ((x + y) % 256) 0

abbrev ordinary : ℕ → Bool
ordinary x = not (eqb x 0) && not (eqb x soft_fork_vote)

-- a test that counts only where the byte is a vote
abbrev turned : ℕ → Bool → Bool
turned v k = not (eqb v 0) && k

-- ---- no test says so: the header is legal
abbrev Apart : ℕ → ℕ → Type 0
Apart x y = (x ≡ y → ⊥) × ((x + y) % 256 ≡ 0 → ⊥)

no-clash : (x y : ℕ) → clash x y ≡ false → Apart x y
no-clash x y e =
    let f = neither (eqb x y) (eqb ((x + y) % 256) 0) e in
    (eqb-false x y f.0, eqb-false ((x + y) % 256) 0 f.1)

guarded : (v : ℕ) (k : Bool) → turned v k ≡ false → (v ≡ 0 → ⊥) → k ≡ false
guarded v k e n = rw (ne_eqb v 0 n) at e

apart-sym : (x y : ℕ) → x < 256 → y < 256 → ((x ≡ 0 → ⊥) → Apart x y) → (y ≡ 0 → ⊥) → Apart y x
apart-sym x y hx hy f n =
    (λ e. (f (λ z. n (e ∙ z))).0 (sym e), λ e. (f (λ z. n (omega (arith, e, z)))).1 (omega (arith, e)))

no_one : (x y : ℕ) → (x ≡ y → ⊥) → ◌≡◌ {A = ℕ} (cond (eqb x y) 1 0) 0
no_one x y n = rw (ne_eqb x y n)

one-most : (t : Bool) → cond t 1 0 ≤ 1
one-most true = omega arith
one-most false = omega arith

-- a vote that is not there twice, and whose negation is not there
vote-none : (v : ℕ) → v < 256 → (bs : List ℕ) → Bytes bs → ((v ≡ 0 → ⊥) → (count (eqb v) bs ≤ 1) × (count (eqb (256 - v)) bs ≡ 0)) → passed ≡ byte-check (votes_in bs) v
vote-none v h bs small f =
    by-test (eqb v 0) (λ e. rw e)
    (λ e. let n = eqb-false v 0 e in vote-fine v h n bs small refl (f n).0 (sym (negation-byte v h n)) refl (omega (arith, (f n).1)))

not_three : (p q r : Bool) → (p && q) && r ≡ false → cond p 1 0 + (cond q 1 0 + (cond r 1 0 + 0)) ≤ 2
not_three true true true e = absurd (true≢false e)
not_three true true false e = omega arith
not_three true false true e = omega arith
not_three true false false e = omega arith
not_three false true true e = omega arith
not_three false true false e = omega arith
not_three false false true e = omega arith
not_three false false false e = omega arith

none_of : (p q r s t u : Bool) → (((((p || q) || r) || s) || t) || u) ≡ false → (p ≡ false) × (q ≡ false) × (r ≡ false) × (s ≡ false) × (t ≡ false) × (u ≡ false)
none_of p q r s t u e =
    let f = neither ((((p || q) || r) || s) || t) u e in
    let g = neither (((p || q) || r) || s) t f.0 in
    let h = neither ((p || q) || r) s g.0 in
    let i = neither (p || q) r h.0 in
    let j = neither p q i.0 in
    (j.0, j.1, i.1, h.1, g.1, f.1)

-- ---- the header is legal: no test says so
-- a vote and the byte of its negation
opposed : (bs : List ℕ) (v n : ℕ) → v < 256 → (v ≡ 0 → ⊥) → n ≡ 256 - v → check_header_votes bs ≡ passed → 0 < count (eqb v) bs → count (eqb n) bs ≡ 0
unfolding votes_for
opposed bs v n h d e legal k =
    let z = negation (signed_of 8 v) in
    let q = ap (signed_of 8) (e ∙ sym (negation-byte v h d)) ∙ negation-id (signed_of 8 v) in
    omega (arith, ltb-false 0 (count (eqb n) bs) (legal-apart bs v n d (λ w. omega arith) (ap (eq_z z) q ∙ eq_z-same z) legal (lt-ltb 0 (count (eqb v) bs) k)))

module _ (bs : List ℕ) (legal : check_header_votes bs ≡ passed) (x : ℕ) (hx : x < 256) (there : 0 < count (eqb x) bs) where
  legal-own : eqb x 128 ≡ false
  legal-own = ne_eqb x 128 (λ q. omega (arith, opposed bs x x hx (λ z. omega arith) (omega arith) legal there))

  legal-clash : (y : ℕ) → y < 256 → 0 < count (eqb y) bs → (x ≡ y → 2 ≤ count (eqb x) bs) → (x ≡ 0 → ⊥) → clash x y ≡ false
  legal-clash y hy also twice d =
      rw (
        ne_eqb x y (λ q. omega (arith, twice q, legal-once bs x d legal)),
        ne_eqb ((x + y) % 256) 0 (λ q. omega (arith, opposed bs x y hx d (opposite q) legal there)),
      )
    where
      opposite : (x + y) % 256 ≡ 0 → y ≡ 256 - x
      opposite q = by-test (eqb x 0) (λ e. absurd (d (eqb-true x 0 e))) (λ e. omega (arith, eqb-false x 0 e))

guard : (v : ℕ) (k : Bool) → ((v ≡ 0 → ⊥) → k ≡ false) → turned v k ≡ false
guard v k f = by-test (eqb v 0) (λ e. rw e) (λ e. rw (e, f (eqb-false v 0 e)))

one_same : (x y : ℕ) → x ≡ y → ◌≡◌ {A = ℕ} (cond (eqb x y) 1 0) 1
one_same x y e = rw (eq-eqb x y e)

three-not : (p q r : Bool) → cond p 1 0 + (cond q 1 0 + (cond r 1 0 + 0)) ≤ 2 → (p && q) && r ≡ false
three-not true true true h = absurd (omega arith)
three-not true true false h = refl
three-not true false r h = refl
three-not false q r h = refl

-- ---- both
module _ (a b c : ℕ) (ha : a < 256) (hb : b < 256) (hc : c < 256) where
  legal-by : ((a ≡ 0 → ⊥) → Apart a b × Apart a c) → ((b ≡ 0 → ⊥) → Apart b c) → (a ≡ 128 → ⊥) → (b ≡ 128 → ⊥) → (c ≡ 128 → ⊥)
      → count ordinary (a ∷ b ∷ c ∷ []) ≤ 2 → check_header_votes (a ∷ b ∷ c ∷ []) ≡ passed
  unfolding count
  legal-by f g da db dc few =
      let small : Bytes (a ∷ b ∷ c ∷ []) = (ha, (hb, (hc, tt))) in
      let va = vote-none a ha (a ∷ b ∷ c ∷ []) small (λ n.
      let p = (f n).0 in
      let q = (f n).1 in (
        omega (arith, one-most (eqb a a), no_one a b p.0, no_one a c q.0),
        omega (arith, no_one (256 - a) a (λ e. da (omega (arith, e))), no_one (256 - a) b (λ e. p.1 (omega (arith, e))), no_one (256 - a) c (λ e. q.1 (omega (arith, e)))),
      )) in
      let vb = vote-none b hb (a ∷ b ∷ c ∷ []) small (λ n.
      let p = apart-sym a b ha hb (λ z. (f z).0) n in
      let q = g n in (
        omega (arith, one-most (eqb b b), no_one b a p.0, no_one b c q.0),
        omega (arith, no_one (256 - b) b (λ e. db (omega (arith, e))), no_one (256 - b) a (λ e. p.1 (omega (arith, e))), no_one (256 - b) c (λ e. q.1 (omega (arith, e)))),
      )) in
      let vc = vote-none c hc (a ∷ b ∷ c ∷ []) small (λ n.
      let p = apart-sym a c ha hc (λ z. (f z).1) n in
      let q = apart-sym b c hb hc g n in (
        omega (arith, one-most (eqb c c), no_one c a p.0, no_one c b q.0),
        omega (arith, no_one (256 - c) c (λ e. dc (omega (arith, e))), no_one (256 - c) a (λ e. p.1 (omega (arith, e))), no_one (256 - c) b (λ e. q.1 (omega (arith, e)))),
      )) in
      sym (vc
      ∙ sym (and-pass _ _ (sym vb))
      ∙ sym (and-pass _ _ (sym va))
      ∙ three-checks a b c refl few)

  -- the whole test
  abbrev tests : Bool
  tests =
      ((((turned a (clash a b || clash a c) || turned b (clash b c)) || eqb a 128) || eqb b 128) || eqb c 128) || ((ordinary a && ordinary b) && ordinary c)

  quiet-legal : tests ≡ false → check_header_votes (a ∷ b ∷ c ∷ []) ≡ passed
  unfolding count
  quiet-legal e =
      let t = none_of (turned a (clash a b || clash a c)) (turned b (clash b c)) (eqb a 128) (eqb b 128) (eqb c 128) ((ordinary a && ordinary b) && ordinary c) e in
      legal-by
      (λ n. let w = neither (clash a b) (clash a c) (guarded a (clash a b || clash a c) t.0 n) in (no-clash a b w.0, no-clash a c w.1))
      (λ n. no-clash b c (guarded b (clash b c) t.1 n))
      (eqb-false a 128 t.2) (eqb-false b 128 t.3) (eqb-false c 128 t.4)
      (not_three (ordinary a) (ordinary b) (ordinary c) t.5)

  legal-quiet : check_header_votes (a ∷ b ∷ c ∷ []) ≡ passed → tests ≡ false
  unfolding count
  legal-quiet legal =
      let s = a ∷ b ∷ c ∷ [] in
      let ta : 0 < count (eqb a) s = omega (arith, one_same a a refl) in
      let tb : 0 < count (eqb b) s = omega (arith, one_same b b refl) in
      let tc : 0 < count (eqb c) s = omega (arith, one_same c c refl) in
      let ab = legal-clash s legal a ha ta b hb tb (λ q. omega (arith, one_same a a refl, one_same a b q)) in
      let ac = legal-clash s legal a ha ta c hc tc (λ q. omega (arith, one_same a a refl, one_same a c q)) in
      let bc = legal-clash s legal b hb tb c hc tc (λ q. omega (arith, one_same b b refl, one_same b c q)) in
      rw (
        guard a (clash a b || clash a c) (λ n. rw (ab n, ac n)),
        guard b (clash b c) bc,
        legal-own s legal a ha ta,
        legal-own s legal b hb tb,
        legal-own s legal c hc tc,
        three-not (ordinary a) (ordinary b) (ordinary c) (legal-few s legal),
      )

  -- the tests as the code has them
  pub illegal-by : {k l m x y z : Bool} → k ≡ clash a b → l ≡ clash a c → m ≡ clash b c → x ≡ ordinary a → y ≡ ordinary b → z ≡ ordinary c
      → (((((turned a (k || l) || turned b m) || eqb a 128) || eqb b 128) || eqb c 128) || ((x && y) && z)) ≡ is_err (check_header_votes (a ∷ b ∷ c ∷ []))
  illegal-by ek el em ex ey ez =
      rw (ek, el, em, ex, ey, ez)
      (by-answer (check_header_votes (a ∷ b ∷ c ∷ []))
      (λ x e. rw e (legal-quiet e))
      (λ x e. by-test tests (λ t. rw (e, t)) (λ t. let p = quiet-legal t in cc)))
