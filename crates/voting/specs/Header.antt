-- The votes of a header, and which headers are legal. docs/RULES.md, "Header bytes".
-- Assumes nothing.
use Rattle.std.specs.Result.{result_and}
use Rattle.std.specs.Prelude.{Err, ◌≡◌, ℕ, Bool, cond, not, List, [], ◌∷◌, ℤ, pos, neg_ℤ, ◌==◌, nat_eq, nat_lt}
use Rattle.codec.specs.declared.refusal.Refusal.TheVariants.{TooManyVotes, RepeatedVote, ContradictoryVote}
use Rattle.codec.specs.Signed.{signed_of, wrapped}
use Rattle.counting.specs.Count.{count}
use Rattle.codec.specs.Check.{Check, passed}
use Rattle.voting.specs.Common.{eq_z, Each}

-- the votes among bytes: those that are not 0, as signed ids
unfoldable pub votes_in : List ℕ → List ℤ
votes_in [] = []
votes_in (b ∷ bs) = cond (b == 0) (votes_in bs) (signed_of 8 b ∷ votes_in bs)

-- the negation, wrapped to 8 bits: -128 is its own
unfoldable pub negation : ℤ → ℤ
negation v = wrapped 8 (neg_ℤ v)

-- the vote for the fork, as a byte and as an id
abbrev pub soft_fork_vote : ℕ
soft_fork_vote = 120

-- an ordinary vote: not for the fork
unfoldable pub ordinary_vote : ℤ → Bool
ordinary_vote v = not (eq_z v (pos soft_fork_vote))

-- what is wrong with the vote v among all votes: it is repeated (10), or its negation is there (11)
unfoldable pub fault : List ℤ → ℤ → Check
fault all v = cond (nat_lt 1 (count (eq_z v) all)) (Err RepeatedVote) (cond (nat_lt 0 (count (eq_z (negation v)) all)) (Err ContradictoryVote) passed)

-- the first fault, in order
unfoldable pub fault_in : List ℤ → List ℤ → Check
fault_in all [] = passed
fault_in all (v ∷ vs) = result_and (fault all v) (fault_in all vs)

-- more than two ordinary votes (9) before all else
unfoldable pub check_votes : List ℤ → Check
check_votes votes = cond (nat_lt 2 (count ordinary_vote votes)) (Err TooManyVotes) (fault_in votes votes)

unfoldable pub check_header_votes : List ℕ → Check
check_header_votes bytes = check_votes (votes_in bytes)

-- some byte of the header is b; a header votes 120 if one of its bytes is 120
unfoldable pub votes_for : ℕ → List ℕ → Bool
votes_for b bytes = nat_lt 0 (count (nat_eq b) bytes)

-- every header of a list is legal
abbrev pub AllLegal : List (List ℕ) → Type 0
AllLegal = Each (λ bytes. check_header_votes bytes ≡ passed)
