-- The lines that the replay prints, as ASCII bytes. docs/RULES.md, "Replay".
-- Assumes nothing.
use Rattle.std.specs.Prelude.{ℕ, ◌+◌, List, [], ◌∷◌, ◌++◌, ℤ, pos, negsuc, None, Some}
use Rattle.codec.specs.Decimal.{digits, newline}
use Rattle.voting.specs.Value.{Value}
use Rattle.voting.specs.declared.table.Fork.{Fork}

-- numbers of 32 bits have at most ten
unfoldable pub decimal : ℤ → List ℕ
decimal (pos n) = digits 10 n
decimal (negsuc n) = 45 ∷ digits 10 (n + 1)

-- an entry of the table: `-` where it is absent
unfoldable pub column : Value → List ℕ
column None = 45 ∷ []
column (Some z) = decimal z

abbrev pub space : List ℕ
space = 32 ∷ []

-- `height version start votes`
unfoldable pub head_line : List ℕ
head_line = 104 ∷ 101 ∷ 105 ∷ 103 ∷ 104 ∷ 116 ∷ 32 ∷ 118 ∷ 101 ∷ 114 ∷ 115 ∷ 105 ∷ 111 ∷ 110 ∷ 32 ∷ 115 ∷ 116 ∷ 97 ∷ 114 ∷ 116 ∷ 32 ∷ 118 ∷ 111 ∷ 116 ∷ 101 ∷ 115 ∷ newline

-- an accepted epoch: its height, and 123, 122 and 121 after its boundary
unfoldable pub epoch_line : ℕ → Fork → List ℕ
epoch_line height f = digits 10 height ++ space ++ column f.version ++ space ++ column f.start ++ space ++ column f.votes ++ newline

-- `end`, the number of epochs that were accepted, and the refusal's number or 0
unfoldable pub end_line : ℕ → ℕ → List ℕ
end_line accepted refusal = (101 ∷ 110 ∷ 100 ∷ []) ++ space ++ digits 10 accepted ++ space ++ digits 10 refusal ++ newline

-- no line has more bytes
abbrev pub line_most : ℕ
line_most = 47
