use Rattle.std.proofs.Common.{◌≡◌, ◌+◌, ◌*◌, length, drop}
use lib.Seq.{sets}
use Rattle.extension.specs.Encode.{sum}
use Rattle.writers.specs.Fields.{field_list, fields_bytes}
use Rattle.writers.proofs.fields.put_fields.Given as goal

abbrev pub invariant-loop-i : goal.invariant-loop-i
invariant-loop-i l = (l.p + sum (drop l.i l.sizes) ≡ length l.values) ×
    (sets l.out (3 * l.i + l.p) (fields_bytes (field_list (drop (2 * l.i) l.keys) (drop l.i l.sizes) (drop l.p l.values))) ≡ sets l.initial.out 0 (fields_bytes (field_list l.keys l.sizes l.values)))
