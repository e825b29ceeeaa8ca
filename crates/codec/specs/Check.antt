-- A check, which passes or refuses, and what goes on after it. docs/RULES.md, "Who can be turned away, and by which number".
-- Assumes nothing.
use Rattle.std.specs.Prelude.{Result, Ok, Err, ⊤}
use Rattle.codec.specs.declared.refusal.Refusal.{Refusal}

abbrev pub Check : Type 0
Check = Result ⊤ Refusal

abbrev pub passed : Check
passed = Ok tt

-- goes on with what there is, unless it was refused
abbrev pub and_then : {A B E : Type 0} → Result A E → (A → Result B E) → Result B E
and_then (Ok x) next = next x
and_then (Err e) next = Err e
