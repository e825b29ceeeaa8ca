-- Rule ids and the offsets that stand for them on the wire. docs/RULES.md, "Settings update".
-- Assumes nothing.
use Rattle.std.specs.Prelude.{ℕ, ◌+◌, ℤ, pos, ◌-ℤ◌}
use Rattle.codec.specs.Signed.{bits_of, wrapped}

-- the rule id of offset 0
abbrev pub first_rule : ℕ
first_rule = 1000

-- an offset plus 1,000, wrapped to signed 16 bits
unfoldable pub rule_of : ℕ → ℤ
rule_of offset = wrapped 16 (pos (offset + first_rule))

-- an id less 1,000, wrapped to 16 bits
unfoldable pub offset_of : ℤ → ℕ
offset_of id = bits_of 16 (id -ℤ pos first_rule)
