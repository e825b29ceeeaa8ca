-- The search, as the code goes about it. Laws join it to `next_legal_votes`. Assumes nothing.
use Rattle.std.specs.Prelude.{ℕ, ◌-◌, ◌%◌, cond, List, [], ◌∷◌, ltb, eqb, Option, Some, None}
use Rattle.legal.specs.declared.next.Votes.{Votes}
use Rattle.legal.specs.Legal.{number, legal, numbers, kept, total, votes_of}

-- the legal numbers from n on
unfoldable pub legal_from : ℕ → List ℕ
legal_from n = kept legal (numbers (total - n) n)

-- the first of a list, 2^24 for none
unfoldable pub first_or : List ℕ → ℕ
first_or [] = total
first_or (n ∷ ns) = n

unfoldable pub first_from : ℕ → ℕ
first_from n = first_or (legal_from n)

-- the bytes of a number, nothing from 2^24 up
unfoldable pub votes_at : ℕ → Option Votes
votes_at n = cond (ltb n total) (votes_of n) None

-- where a position stands
unfoldable pub position_of : Option Votes → ℕ
position_of None = total
position_of (Some v) = number v.0 v.1 v.2

-- how many numbers from n on begin with its bytes, the zeros at its end left out
unfoldable pub step_of : ℕ → ℕ
step_of n = cond (eqb (n % 65536) 0) 65536 (cond (eqb (n % 256) 0) 256 1)
