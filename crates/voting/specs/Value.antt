-- The value of an entry. docs/RULES.md, "Table and settings".
-- Assumes nothing.
use Rattle.std.specs.Prelude.{ℤ, Option}

-- a number, or none where the entry is absent
abbrev pub Value : Type 0
Value = Option ℤ
