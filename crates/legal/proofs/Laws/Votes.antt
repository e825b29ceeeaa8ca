-- A legal header stays legal when its last votes are taken away.
-- Assumes nothing.
use mathlib.Core.Path.{◌≡◌, refl, sym, ap, ◌∙◌}
use mathlib.Core.Bool.{Bool, true, false, cond}
use mathlib.Core.List.{List, [], ◌∷◌, ◌++◌, append-nil}
use Prim.Native.Nat.{ℕ, ◌≤◌}
use native.Mathlib.Omega.{arith}
use lib.Dec.{eqb, ltb}
use lib.IntN.{ℤ}
use borrow.Author.Tests.{ltb-false, le-ltb}
use Rattle.std.specs.Prelude.{Err}
use Rattle.codec.specs.declared.refusal.Refusal.TheVariants.{TooManyVotes, RepeatedVote, ContradictoryVote}
use Rattle.codec.specs.Check.{passed}
use Rattle.codec.specs.Signed.{signed_of}
use Rattle.counting.specs.Count.{count}
use Rattle.voting.specs.Common.{eq_z}
use Rattle.voting.specs.Header.{votes_in, negation, ordinary_vote, fault, fault_in, check_votes, check_header_votes}
use Rattle.voting.proofs.Laws.Tests.{and-pass, and-passed}
use Rattle.counting.proofs.Laws.Count.{count-append}

-- a test of counts that passes also passes with smaller ones
fewer : (n m n' m' : ℕ) → n' ≤ n → m' ≤ m → cond (ltb 1 n) (Err RepeatedVote) (cond (ltb 0 m) (Err ContradictoryVote) passed) ≡ passed → cond (ltb 1 n') (Err RepeatedVote) (cond (ltb 0 m') (Err ContradictoryVote) passed) ≡ passed
fewer n m n' m' h g = go (ltb 1 n) (ltb 0 m) refl refl
  where
    go : (s t : Bool) → ltb 1 n ≡ s → ltb 0 m ≡ t → cond s (Err RepeatedVote) (cond t (Err ContradictoryVote) passed) ≡ passed → cond (ltb 1 n') (Err RepeatedVote) (cond (ltb 0 m') (Err ContradictoryVote) passed) ≡ passed
    go true t p q e = cc
    go false true p q e = cc
    go false false p q e = rw (le-ltb 1 n' (omega (arith, ltb-false 1 n p)), le-ltb 0 m' (omega (arith, ltb-false 0 m q)))

-- the first votes of a list that has no fault have none among themselves
fault-less : (xs ys : List ℤ) (v : ℤ) → fault (xs ++ ys) v ≡ passed → fault xs v ≡ passed
unfolding fault
fault-less xs ys v =
    fewer (count (eq_z v) (xs ++ ys)) (count (eq_z (negation v)) (xs ++ ys)) (count (eq_z v) xs) (count (eq_z (negation v)) xs)
    (omega (arith, count-append (eq_z v) xs ys)) (omega (arith, count-append (eq_z (negation v)) xs ys))

faults-less : (all more xs ys : List ℤ) → fault_in (all ++ more) (xs ++ ys) ≡ passed → fault_in all xs ≡ passed
unfolding fault_in
faults-less all more [] ys e = refl
faults-less all more (v ∷ xs) ys e =
    let f = and-passed (fault (all ++ more) v) (fault_in (all ++ more) (xs ++ ys)) e in
    and-pass (fault all v) (fault_in all xs) (fault-less all more v f.0) ∙ faults-less all more xs ys f.1

check-less : (xs ys : List ℤ) → check_votes (xs ++ ys) ≡ passed → check_votes xs ≡ passed
unfolding check_votes
check-less xs ys = go (ltb 2 (count ordinary_vote (xs ++ ys))) refl
  where
    go : (t : Bool) → ltb 2 (count ordinary_vote (xs ++ ys)) ≡ t → cond t (Err TooManyVotes) (fault_in (xs ++ ys) (xs ++ ys)) ≡ passed → cond (ltb 2 (count ordinary_vote xs)) (Err TooManyVotes) (fault_in xs xs) ≡ passed
    go true p e = cc
    go false p e =
        let h : count ordinary_vote xs ≤ 2 = omega (arith, ltb-false 2 (count ordinary_vote (xs ++ ys)) p, count-append ordinary_vote xs ys) in
        rw (le-ltb 2 (count ordinary_vote xs) h) (faults-less xs ys xs ys e)

votes-append : (xs ys : List ℕ) → votes_in (xs ++ ys) ≡ votes_in xs ++ votes_in ys
unfolding votes_in
votes-append [] ys = refl
votes-append (b ∷ xs) ys = go (eqb b 0) (votes-append xs ys)
  where
    go : (t : Bool) → votes_in (xs ++ ys) ≡ votes_in xs ++ votes_in ys → cond t (votes_in (xs ++ ys)) (signed_of 8 b ∷ votes_in (xs ++ ys)) ≡ cond t (votes_in xs) (signed_of 8 b ∷ votes_in xs) ++ votes_in ys
    go true e = e
    go false e = ap (λ (vs : List ℤ). signed_of 8 b ∷ vs) e

-- the first bytes of a legal header, and no votes after them
pub legal-front : (xs ys zs : List ℕ) → votes_in zs ≡ [] → check_header_votes (xs ++ ys) ≡ passed → check_header_votes (xs ++ zs) ≡ passed
unfolding check_header_votes
legal-front xs ys zs e h =
    ap check_votes (votes-append xs zs ∙ ap (λ (vs : List ℤ). votes_in xs ++ vs) e ∙ append-nil (votes_in xs))
    ∙ check-less (votes_in xs) (votes_in ys) (ap check_votes (sym (votes-append xs ys)) ∙ h)
