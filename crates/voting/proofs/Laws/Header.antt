-- Votes of a header: ids against bytes, how often they are there, and what a legal header has.
-- Assumes nothing.
use Rattle.std.proofs.Common.{Ok, Err, ◌≡◌, ℕ, zero, suc, ◌+◌, ◌-◌, ◌<◌, ◌≤◌, Bool, true, false, cond, not, ◌&&◌, eqb, ltb, List, [], ◌∷◌, ℤ, pos, negsuc, neg_ℤ, sym, refl, ap, ◌∙◌, subst, arith, w8, ltb-false, ltb-true, le-ltb, lt-ltb, ne_eqb, eqb-true}
use borrow.Author.Tests.{eqb-false}
use Rattle.codec.specs.declared.refusal.Refusal.TheVariants.{TooManyVotes, RepeatedVote, ContradictoryVote}
use Rattle.std.specs.Result.{result_and}
use Rattle.codec.specs.Check.{Check, passed}
use Rattle.codec.specs.Signed.{modulo, bits_of, signed_of, wrapped}
use Rattle.codec.proofs.Laws.Signed.{signed_back}
use Rattle.counting.specs.Count.{count}
use Rattle.voting.specs.Common.{eq_z, Each, Bytes}
use Rattle.voting.proofs.Laws.Tests.{eqb_comm, and-passed}
use Rattle.voting.proofs.Laws.Integers.{eq_z-same, ne-eq_z, eq_z-comm}
use Rattle.voting.proofs.Laws.Each.{each}
use Rattle.voting.specs.Header.{soft_fork_vote, votes_in, negation, ordinary_vote, fault, fault_in, check_votes, check_header_votes, votes_for}

-- of all these bytes only v has the id of v
abbrev pub Alike : ℕ → List ℕ → Type 0
Alike v = Each (λ b. eq_z (signed_of 8 b) (signed_of 8 v) ≡ eqb v b)

same_id : (v b : ℕ) → (signed_of 8 b ≡ signed_of 8 v → v ≡ b) → eq_z (signed_of 8 b) (signed_of 8 v) ≡ eqb v b
same_id v b h = go (eqb v b) refl
  where
    go : (t : Bool) → eqb v b ≡ t → eq_z (signed_of 8 b) (signed_of 8 v) ≡ t
    go true e = subst (λ (n : ℕ). eq_z (signed_of 8 n) (signed_of 8 v) ≡ true) (eqb-true v b e) (eq_z-same (signed_of 8 v))
    go false e = ne-eq_z (signed_of 8 b) (signed_of 8 v) (λ q. eqb-false v b e (h q))

-- the id of a byte below 128 is of no other number
pub small-id : (v b : ℕ) → v < 128 → signed_of 8 b ≡ signed_of 8 v → v ≡ b
unfolding signed_of
small-id v b h e = go (ltb b 128) (e ∙ ap (λ (t : Bool). cond t (pos v) (negsuc (256 - suc v))) (lt-ltb v 128 h))
  where
    go : (t : Bool) → cond t (pos b) (negsuc (256 - suc b)) ≡ pos v → v ≡ b
    go true e = cc
    go false e = absurd (let z : ◌≡◌ {A = ℕ} 0 1 = cc in omega arith)

pub alike-small : (v : ℕ) → v < 128 → (bs : List ℕ) → Alike v bs
alike-small v h [] = tt
alike-small v h (b ∷ bs) = (same_id v b (small-id v b h), alike-small v h bs)

pub alike-bytes : (v : ℕ) → v < 256 → (bs : List ℕ) → Bytes bs → Alike v bs
alike-bytes v h = each (λ b. b < 256) (λ b. eq_z (signed_of 8 b) (signed_of 8 v) ≡ eqb v b)
    (λ b k. same_id v b (λ q. sym (signed_back w8 v h) ∙ ap (bits_of 8) (sym q) ∙ signed_back w8 b k))

-- what is counted among the votes, counted among the bytes
cons-ids : (p : ℤ → Bool) (t : Bool) (z : ℤ) (vs : List ℤ) → count p (cond t vs (z ∷ vs)) ≡ cond (not t && p z) 1 0 + count p vs
unfolding count
cons-ids p true z vs = omega arith
cons-ids p false z vs = refl

count-ids : (p : ℤ → Bool) (q : ℕ → Bool) (bs : List ℕ) → Each (λ b. not (eqb b 0) && p (signed_of 8 b) ≡ q b) bs → count p (votes_in bs) ≡ count q bs
unfolding count votes_in
count-ids p q [] h = refl
count-ids p q (b ∷ bs) h =
    cons-ids p (eqb b 0) (signed_of 8 b) (votes_in bs) ∙
    ap (λ (n : ℕ). cond (not (eqb b 0) && p (signed_of 8 b)) 1 0 + n) (count-ids p q bs h.1) ∙
    ap (λ (t : Bool). cond t 1 0 + count q bs) h.0

ordinary-ids : (bs : List ℕ) → count ordinary_vote (votes_in bs) ≡ count (λ b. not (eqb b 0) && not (eqb b soft_fork_vote)) bs
unfolding ordinary_vote signed_of
ordinary-ids bs =
    count-ids ordinary_vote (λ b. not (eqb b 0) && not (eqb b soft_fork_vote)) bs
    (each (λ b. eq_z (signed_of 8 b) (pos soft_fork_vote) ≡ eqb soft_fork_vote b) (λ b. not (eqb b 0) && ordinary_vote (signed_of 8 b) ≡ not (eqb b 0) && not (eqb b soft_fork_vote))
    (λ b e. ap (λ (t : Bool). not (eqb b 0) && not t) (e ∙ eqb_comm soft_fork_vote b)) bs (alike-small soft_fork_vote (omega arith) bs))

-- a byte that is a vote
vote-test : (v b : ℕ) → (v ≡ 0 → ⊥) → not (eqb b 0) && eqb v b ≡ eqb v b
vote-test v b h = go (eqb b 0) refl
  where
    go : (t : Bool) → eqb b 0 ≡ t → not t && eqb v b ≡ eqb v b
    go true e = sym (ne_eqb v b (λ q. h (q ∙ eqb-true b 0 e)))
    go false e = refl

times-ids : (v : ℕ) → (v ≡ 0 → ⊥) → (bs : List ℕ) → Alike v bs → count (eq_z (signed_of 8 v)) (votes_in bs) ≡ count (eqb v) bs
times-ids v h bs k =
    count-ids (eq_z (signed_of 8 v)) (eqb v) bs
    (each (λ b. eq_z (signed_of 8 b) (signed_of 8 v) ≡ eqb v b) (λ b. not (eqb b 0) && eq_z (signed_of 8 v) (signed_of 8 b) ≡ eqb v b)
    (λ b e. ap (λ (t : Bool). not (eqb b 0) && t) (eq_z-comm (signed_of 8 v) (signed_of 8 b) ∙ e) ∙ vote-test v b h) bs k)

-- the byte of the negation of a vote: its id is the negation, and it is a vote
bits_small : (z : ℤ) → bits_of 8 z < 256
unfolding bits_of modulo
bits_small (pos n) = omega arith
bits_small (negsuc n) = omega arith

pub negation-bits : (z : ℤ) → bits_of 8 (negation z) ≡ bits_of 8 (neg_ℤ z)
unfolding negation wrapped
negation-bits z = signed_back w8 (bits_of 8 (neg_ℤ z)) (bits_small (neg_ℤ z))

pub negation-id : (z : ℤ) → signed_of 8 (bits_of 8 (negation z)) ≡ negation z
unfolding negation wrapped
negation-id z = ap (signed_of 8) (negation-bits z)

negation-vote : (v : ℕ) → v < 256 → (v ≡ 0 → ⊥) → bits_of 8 (negation (signed_of 8 v)) ≡ 0 → ⊥
unfolding bits_of modulo signed_of
negation-vote v h n e = go (ltb v 128) refl (sym (negation-bits (signed_of 8 v)) ∙ e)
  where
    low : (v : ℕ) → v < 128 → (v ≡ 0 → ⊥) → modulo 256 (neg_ℤ (pos v)) ≡ 0 → ⊥
    low zero h n e = n refl
    low (suc k) h n e = omega arith

    go : (t : Bool) → ltb v 128 ≡ t → modulo 256 (neg_ℤ (cond t (pos v) (negsuc (256 - suc v)))) ≡ 0 → ⊥
    go true k e = low v (ltb-true v 128 k) n e
    go false k e = omega (arith, ltb-false v 128 k)

negation-ids : (v : ℕ) → v < 256 → (v ≡ 0 → ⊥) → (bs : List ℕ) → Bytes bs → count (eq_z (negation (signed_of 8 v))) (votes_in bs) ≡ count (eqb (bits_of 8 (negation (signed_of 8 v)))) bs
negation-ids v h n bs small =
    let m = bits_of 8 (negation (signed_of 8 v)) in
    ap (λ (z : ℤ). count (eq_z z) (votes_in bs)) (sym (negation-id (signed_of 8 v))) ∙
    times-ids m (negation-vote v h n) bs (alike-bytes m (bits_small (negation (signed_of 8 v))) bs small)

-- the check of a byte: nothing is wrong with one that is no vote
abbrev pub byte-check : List ℤ → ℕ → Check
byte-check all v = cond (eqb v 0) passed (fault all (signed_of 8 v))

-- by whether the vote is repeated, and whether its negation is there
abbrev judged : (repeated contradictory : Bool) → Check
judged s t = cond s (Err RepeatedVote) (cond t (Err ContradictoryVote) passed)

-- the check of a vote, by what is found among the bytes
fault-by : (v : ℕ) → v < 256 → (v ≡ 0 → ⊥) → (bs : List ℕ) → Bytes bs → (s t : Bool) → ltb 1 (count (eqb v) bs) ≡ s → ltb 0 (count (eqb (bits_of 8 (negation (signed_of 8 v)))) bs) ≡ t → judged s t ≡ byte-check (votes_in bs) v
unfolding fault
fault-by v h n bs small s t p q = rw (ne_eqb v 0 n, times-ids v n bs (alike-bytes v h bs small), negation-ids v h n bs small, p, q)

-- the ways out of a vote's test; t is how often the vote is there, m the byte of its negation, and u how often that is there
module _ (v : ℕ) (h : v < 256) (n : v ≡ 0 → ⊥) (bs : List ℕ) (small : Bytes bs) {t : ℕ} (is-t : t ≡ count (eqb v) bs) where
  pub vote-repeated : 1 < t → Err RepeatedVote ≡ byte-check (votes_in bs) v
  vote-repeated k = fault-by v h n bs small true _ (ap (ltb 1) (sym is-t) ∙ lt-ltb 1 t k) refl

  module _ (k : t ≤ 1) {m u : ℕ} (is_m : m ≡ bits_of 8 (negation (signed_of 8 v))) (is-u : u ≡ count (eqb m) bs) where
    vote-alone : (r : Bool) → ltb 0 u ≡ r → judged false r ≡ byte-check (votes_in bs) v
    vote-alone r e = fault-by v h n bs small false r (ap (ltb 1) (sym is-t) ∙ le-ltb 1 t k) (ap (λ (b : ℕ). ltb 0 (count (eqb b) bs)) (sym is_m) ∙ ap (ltb 0) (sym is-u) ∙ e)

    pub vote-opposed : 0 < u → Err ContradictoryVote ≡ byte-check (votes_in bs) v
    vote-opposed l = vote-alone true (lt-ltb 0 u l)

    pub vote-fine : u ≤ 0 → passed ≡ byte-check (votes_in bs) v
    vote-fine l = vote-alone false (le-ltb 0 u l)

-- the faults of votes, byte by byte
no-votes : (all : List ℤ) → fault_in all (votes_in []) ≡ passed
unfolding fault_in votes_in
no-votes all = refl

fault-cons : (all : List ℤ) (b : ℕ) (bs : List ℕ) → fault_in all (votes_in (b ∷ bs)) ≡ result_and (byte-check all b) (fault_in all (votes_in bs))
unfolding fault_in votes_in
fault-cons all b bs = go (eqb b 0)
  where
    go : (t : Bool) → fault_in all (cond t (votes_in bs) (signed_of 8 b ∷ votes_in bs)) ≡ result_and (cond t passed (fault all (signed_of 8 b))) (fault_in all (votes_in bs))
    go true = refl
    go false = refl

-- the judgement of a header, by what is found among the bytes
module _ (bs : List ℕ) {n : ℕ} (is-n : n ≡ count (λ b. not (eqb b 0) && not (eqb b soft_fork_vote)) bs) where
  pub many-votes : 2 < n → Err TooManyVotes ≡ check_header_votes bs
  unfolding check_header_votes check_votes
  many-votes h = rw (ordinary-ids bs, ← is-n, lt-ltb 2 n h)

  few-votes : n ≤ 2 → fault_in (votes_in bs) (votes_in bs) ≡ check_header_votes bs
  unfolding check_header_votes check_votes
  few-votes h = rw (ordinary-ids bs, ← is-n, le-ltb 2 n h)

last-check : (r : Check) → result_and r passed ≡ r
last-check (Ok x) = refl
last-check (Err e) = refl

-- few votes, so the three bytes in order
module _ (a b c : ℕ) {n : ℕ} (is-n : n ≡ count (λ b. not (eqb b 0) && not (eqb b soft_fork_vote)) (a ∷ b ∷ c ∷ [])) (few : n ≤ 2) where
  pub three-checks : result_and (byte-check (votes_in (a ∷ b ∷ c ∷ [])) a) (result_and (byte-check (votes_in (a ∷ b ∷ c ∷ [])) b) (byte-check (votes_in (a ∷ b ∷ c ∷ [])) c)) ≡ check_header_votes (a ∷ b ∷ c ∷ [])
  three-checks =
      let all = votes_in (a ∷ b ∷ c ∷ []) in
      rw (fault-cons all a (b ∷ c ∷ []), fault-cons all b (c ∷ []), fault-cons all c [], no-votes all, last-check (byte-check all c)) at
      (few-votes (a ∷ b ∷ c ∷ []) is-n few)

-- Legal headers
legal-faults : (bs : List ℕ) → check_header_votes bs ≡ passed → fault_in (votes_in bs) (votes_in bs) ≡ passed
unfolding check_header_votes check_votes
legal-faults bs = go (ltb 2 (count ordinary_vote (votes_in bs)))
  where
    go : (t : Bool) → cond t (Err TooManyVotes) (fault_in (votes_in bs) (votes_in bs)) ≡ passed → fault_in (votes_in bs) (votes_in bs) ≡ passed
    go true e = cc
    go false e = e

-- it has no more than two ordinary votes
pub legal-few : (bs : List ℕ) → check_header_votes bs ≡ passed → count (λ b. not (eqb b 0) && not (eqb b soft_fork_vote)) bs ≤ 2
legal-few bs e = go (ltb 2 (count (λ b. not (eqb b 0) && not (eqb b soft_fork_vote)) bs)) refl
  where
    go : (t : Bool) → ltb 2 (count (λ b. not (eqb b 0) && not (eqb b soft_fork_vote)) bs) ≡ t → count (λ b. not (eqb b 0) && not (eqb b soft_fork_vote)) bs ≤ 2
    go true k = let m = many-votes bs refl (ltb-true _ _ k) in cc
    go false k = ltb-false _ _ k

-- a vote of the bytes has no fault where none of them has
vote-faults : (all : List ℤ) (v : ℕ) → (v ≡ 0 → ⊥) → (bs : List ℕ) → fault_in all (votes_in bs) ≡ passed → 0 < count (eqb v) bs → fault all (signed_of 8 v) ≡ passed
unfolding count
vote-faults all v n [] e h = absurd (omega arith)
vote-faults all v n (b ∷ bs) e h =
    let f = and-passed (byte-check all b) (fault_in all (votes_in bs)) (sym (fault-cons all b bs) ∙ e) in
    go (eqb v b) refl f.0 h (vote-faults all v n bs f.1)
  where
    go : (t : Bool) → eqb v b ≡ t → byte-check all b ≡ passed → 0 < cond t 1 0 + count (eqb v) bs → (0 < count (eqb v) bs → fault all (signed_of 8 v) ≡ passed) → fault all (signed_of 8 v) ≡ passed
    go true e g h k =
        let q : v ≡ b = eqb-true v b e in
        ap (λ (x : ℕ). fault all (signed_of 8 x)) q ∙ (rw (ne_eqb b 0 (λ z. n (q ∙ z))) at g)
    go false e g h k = k (omega arith)

-- a vote is among the votes as often as among the bytes, and other bytes may have its id
votes-most : (p : ℤ → Bool) (v : ℕ) → (v ≡ 0 → ⊥) → p (signed_of 8 v) ≡ true → (bs : List ℕ) → count (eqb v) bs ≤ count p (votes_in bs)
unfolding count votes_in
votes-most p v n e [] = omega arith
votes-most p v n e (b ∷ bs) =
    let ih = votes-most p v n e bs in
    subst (λ (m : ℕ). cond (eqb v b) 1 0 + count (eqb v) bs ≤ m) (sym (cons-ids p (eqb b 0) (signed_of 8 b) (votes_in bs))) (go (eqb v b) refl ih)
  where
    go : (t : Bool) → eqb v b ≡ t → count (eqb v) bs ≤ count p (votes_in bs) → cond t 1 0 + count (eqb v) bs ≤ cond (not (eqb b 0) && p (signed_of 8 b)) 1 0 + count p (votes_in bs)
    go true k ih =
        let q : v ≡ b = eqb-true v b k in
        rw (ne_eqb b 0 (λ z. n (q ∙ z)), ← q, e) (omega arith)
    go false k ih = omega arith

fault-none : (all : List ℤ) (z : ℤ) → fault all z ≡ passed → (count (eq_z z) all ≤ 1) × (count (eq_z (negation z)) all ≤ 0)
unfolding fault
fault-none all z = go (ltb 1 (count (eq_z z) all)) (ltb 0 (count (eq_z (negation z)) all)) refl refl
  where
    go : (s t : Bool) → ltb 1 (count (eq_z z) all) ≡ s → ltb 0 (count (eq_z (negation z)) all) ≡ t → judged s t ≡ passed → (count (eq_z z) all ≤ 1) × (count (eq_z (negation z)) all ≤ 0)
    go true t p q e = cc
    go false true p q e = cc
    go false false p q e = (ltb-false 1 (count (eq_z z) all) p, ltb-false 0 (count (eq_z (negation z)) all) q)

-- a vote is there at most once
pub legal-once : (bs : List ℕ) (v : ℕ) → (v ≡ 0 → ⊥) → check_header_votes bs ≡ passed → count (eqb v) bs ≤ 1
legal-once bs v n e = go (ltb 0 (count (eqb v) bs)) refl
  where
    go : (t : Bool) → ltb 0 (count (eqb v) bs) ≡ t → count (eqb v) bs ≤ 1
    go true k =
        let f = fault-none (votes_in bs) (signed_of 8 v) (vote-faults (votes_in bs) v n bs (legal-faults bs e) (ltb-true 0 (count (eqb v) bs) k)) in
        let m = votes-most (eq_z (signed_of 8 v)) v n (eq_z-same (signed_of 8 v)) bs in
        omega arith
    go false k = let m = ltb-false 0 (count (eqb v) bs) k in omega arith

-- and never beside its negation
pub legal-apart : (bs : List ℕ) (v n : ℕ) → (v ≡ 0 → ⊥) → (n ≡ 0 → ⊥) → eq_z (negation (signed_of 8 v)) (signed_of 8 n) ≡ true → check_header_votes bs ≡ passed → votes_for v bs ≡ true → votes_for n bs ≡ false
unfolding votes_for
legal-apart bs v n hv hn z e k =
    let f = fault-none (votes_in bs) (signed_of 8 v) (vote-faults (votes_in bs) v hv bs (legal-faults bs e) (ltb-true 0 (count (eqb v) bs) k)) in
    let m = votes-most (eq_z (negation (signed_of 8 v))) n hn z bs in
    le-ltb 0 (count (eqb n) bs) (omega arith)
