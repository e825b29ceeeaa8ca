-- Numbers in decimal, as ASCII bytes. docs/RULES.md, "Numbers in print".
-- Assumes nothing.
use Rattle.std.specs.Prelude.{◌≡◌, ℕ, zero, suc, ◌+◌, ◌-◌, ◌*◌, ◌/◌, ◌%◌, ◌≤◌, cond, List, [], ◌∷◌, ◌++◌, nat_lt}

-- a number of at most k digits, with no zero in front
unfoldable pub digits : ℕ → ℕ → List ℕ
digits zero n = []
digits (suc k) n = cond (nat_lt n 10) ((48 + n) ∷ []) (digits k (n / 10) ++ ((48 + n % 10) ∷ []))

abbrev pub newline : List ℕ
newline = 10 ∷ []

-- the number that digits stand for, behind a number so far
unfoldable pub value_of : ℕ → List ℕ → ℕ
value_of n [] = n
value_of n (d ∷ ds) = value_of (n * 10 + (d - 48)) ds

-- every byte is `0` to `9`
abbrev pub AllDigits : List ℕ → Type 0
AllDigits [] = Unit {0}
AllDigits (d ∷ ds) = (48 ≤ d) × (d ≤ 57) × AllDigits ds

-- there is a first byte, and a first `0` has nothing after it
abbrev pub NoZeroInFront : List ℕ → Type 0
NoZeroInFront [] = ⊥
NoZeroInFront (d ∷ ds) = d ≡ 48 → ds ≡ []

-- a text is a number in decimal
pub record Decimal (n : ℕ) (text : List ℕ) : Type 0 where
  pub all : AllDigits text
  pub value : value_of 0 text ≡ n
  pub front : NoZeroInFront text
