use Rattle.std.proofs.Common.{sym}
use Rattle.codec.proofs.Laws.Output.{sets-out}
use Rattle.writers.specs.Fields.{field_bytes}
use Rattle.writers.proofs.Laws.Fields.{field_put}
use Rattle.writers.proofs.fields.put_field.Goals as goal

pub returns-then-out-at : goal.returns-then-out-at
returns-then-out-at c = let a = c.args in
    sym (sets-out (field_bytes (record { key0 = a.key0; key1 = a.key1; value = a.value.now })) a.out.now a.at c.if-out-at.true)

pub returns : goal.returns
returns c = let a = c.args in
    field_put a.out.now a.at a.key0 a.key1 a.value.now c.put_bytes.ensures c.put_bytes-2.ensures
