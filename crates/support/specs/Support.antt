-- Support: how many of the last headers vote for an id. docs/RULES.md, "Support".
-- Assumes nothing.
use Rattle.std.specs.Prelude.{is_ok, ◌≡◌, ℕ, ◌-◌, cond, List, [], ◌∷◌, length, drop, ◌==◌}
use Rattle.counting.specs.Count.{count}
use Rattle.voting.specs.Common.{Bytes}
use Rattle.voting.specs.Header.{check_header_votes, votes_for}

-- a header: three vote bytes
abbrev pub IsHeader : List ℕ → Type 0
IsHeader votes = (length votes ≡ 3) × Bytes votes

-- the headers that the header check accepts, in order
unfoldable pub accepted : List (List ℕ) → List (List ℕ)
accepted [] = []
accepted (votes ∷ headers) = cond (is_ok (check_header_votes votes)) (votes ∷ accepted headers) (accepted headers)

-- the last n of a list, or all of it while it has fewer
abbrev pub last : {A : Type 0} → ℕ → List A → List A
last n xs = drop (length xs - n) xs

-- the support of an id: how many of the last n accepted headers vote for it; 0 is no vote
unfoldable pub support : ℕ → List (List ℕ) → ℕ → ℕ
support n headers id = cond (id == 0) 0 (count (votes_for id) (last n (accepted headers)))
