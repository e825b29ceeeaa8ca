-- What a failure's text says of its cause: std puts the system's number behind it.
-- Assumes nothing.
use Rattle.std.specs.Prelude.{ℕ, ◌≡◌, List, [], ◌∷◌, take, Option}
use Rattle.std.specs.Str.Pattern.{FindsText}
use Rattle.std.specs.declared.option.Option.TheVariants.{Some, None}

-- the text ` (os error `
abbrev pub mark : List ℕ
mark = 32 ∷ 40 ∷ 111 ∷ 115 ∷ 32 ∷ 101 ∷ 114 ∷ 114 ∷ 111 ∷ 114 ∷ 32 ∷ []

-- what stands before the first mark; the whole text where the mark does not occur
pub data CauseOf : List ℕ → List ℕ → Type 0 where
  whole : {s : List ℕ} → FindsText mark s None → CauseOf s s
  before : {s : List ℕ} (i j : ℕ) → FindsText mark s (Some (i, j)) → CauseOf s (take i s)
