use Rattle.wire.specs.Boundary.{computed_bytes}
use mathlib.Core.Path.{sym, ◌∙◌}
use Rattle.exports.proofs.Laws.{into-ok, tells, numbered_is}
use Rattle.exports.proofs.boundary.write_computed.Goals as goal

pub returns-in-Ok : goal.returns-in-Ok
returns-in-Ok c = numbered_is c.write_computed.result c.number_of.ensures (c.write_computed.ensures.out_after ∙ into-ok computed_bytes _ (sym c.in-Ok.is))

pub returns-in-Err : goal.returns-in-Err
returns-in-Err c = tells computed_bytes _ (sym c.in-Err.is) c.number.ensures
