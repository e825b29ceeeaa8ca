-- Three vote bytes as a number, every legal one, and the next above. docs/RULES.md, "Every legal header".
-- Assumes nothing.
use Rattle.std.specs.Prelude.{is_ok, ℕ, zero, suc, ◌+◌, ◌*◌, ◌/◌, ◌%◌, ◌≤◌, ◌<◌, ◌≡◌, Bool, cond, List, [], ◌∷◌, ltb, Option, Some, None}
use Rattle.codec.specs.Check.{passed}
use Rattle.voting.specs.Header.{check_header_votes}
use Rattle.legal.specs.declared.next.Votes.{Votes}

-- three vote bytes as a number of 24 bits, the first byte highest; and the bytes of a number
abbrev pub number : ℕ → ℕ → ℕ → ℕ
number a b c = a * 65536 + b * 256 + c

unfoldable pub bytes_of : ℕ → List ℕ
bytes_of n = n / 65536 ∷ n / 256 % 256 ∷ n % 256 ∷ []

-- a number is legal if the header check accepts its bytes
unfoldable pub legal : ℕ → Bool
legal n = is_ok (check_header_votes (bytes_of n))

-- k numbers from n on
unfoldable pub numbers : ℕ → ℕ → List ℕ
numbers zero n = []
numbers (suc k) n = n ∷ numbers k (suc n)

-- those that pass a test
unfoldable pub kept : (ℕ → Bool) → List ℕ → List ℕ
kept p [] = []
kept p (n ∷ ns) = cond (p n) (n ∷ kept p ns) (kept p ns)

-- numbers of 24 bits are below
abbrev pub total : ℕ
total = 16777216

-- every legal number, in rising order
unfoldable pub all_legal : List ℕ
all_legal = kept legal (numbers total 0)

-- the first of a list, as three bytes
-- three vote bytes
abbrev pub votes : ℕ → ℕ → ℕ → Votes
votes a b c = record { 0 = a; 1 = b; 2 = c }

abbrev pub votes_of : ℕ → Option Votes
votes_of n = Some (votes (n / 65536) (n / 256 % 256) (n % 256))

unfoldable pub first_of : List ℕ → Option Votes
first_of [] = None
first_of (n ∷ ns) = votes_of n

-- the first legal number above that of three bytes
unfoldable pub next_legal_votes : ℕ → ℕ → ℕ → Option Votes
next_legal_votes a b c = first_of (kept (ltb (number a b c)) all_legal)

-- ---- what the answer means, without a list

abbrev pub Legal : ℕ → ℕ → ℕ → Type 0
Legal a b c = check_header_votes (a ∷ b ∷ c ∷ []) ≡ passed

-- a statement of every legal header
abbrev pub EveryLegal : (ℕ → Type 0) → Type 0
EveryLegal P = (x y z : ℕ) → x < 256 → y < 256 → z < 256 → Legal x y z → P (number x y z)

-- an answer is legal and above, and no legal header lies between; where there is none, no legal header is above
abbrev pub Next : ℕ → Option Votes → Type 0
Next n (Some v) = Legal v.0 v.1 v.2 × (n < number v.0 v.1 v.2) × EveryLegal (λ m. n < m → m < number v.0 v.1 v.2 → ⊥)
Next n None = EveryLegal (λ m. n < m → ⊥)

-- ---- asked again and again

-- the numbers of at most k answers, the first of them given, each asked for with the one before
unfoldable pub asked : (ℕ → ℕ → ℕ → Option Votes) → ℕ → Option Votes → List ℕ
asked next zero v = []
asked next (suc k) None = []
asked next (suc k) (Some v) = number v.0 v.1 v.2 ∷ asked next k (next v.0 v.1 v.2)

-- from 0 on, in as many calls as there are numbers or more, every legal number comes, once and in order, and nothing else
abbrev pub ListsAll : Type 0
ListsAll = (k : ℕ) → total ≤ k → asked next_legal_votes k (Some (votes 0 0 0)) ≡ all_legal
