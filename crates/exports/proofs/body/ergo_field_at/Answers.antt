use Rattle.wire.specs.Places.{field_bytes}
use mathlib.Core.Path.{sym, ◌∙◌}
use Rattle.exports.proofs.Laws.{into-ok, tells, numbered_is}
use Rattle.exports.proofs.body.ergo_field_at.Goals as goal

pub returns-in-Ok : goal.returns-in-Ok
returns-in-Ok c = numbered_is c.write_field.result c.number_of.ensures (c.write_field.ensures.out_after ∙ into-ok field_bytes _ (sym c.in-Ok.is ∙ c.field_at.ensures))

pub returns-in-Err : goal.returns-in-Err
returns-in-Err c = tells field_bytes _ (sym c.in-Err.is ∙ c.field_at.ensures) c.number.ensures
