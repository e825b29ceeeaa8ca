use Rattle.wire.specs.Places.{status_bytes}
use mathlib.Core.Path.{sym, ◌∙◌}
use Rattle.exports.proofs.Laws.{into-ok, tells, numbered_is}
use Rattle.exports.proofs.update.ergo_status_at.Goals as goal

pub returns-in-Ok : goal.returns-in-Ok
returns-in-Ok c = numbered_is c.write_status.result c.number_of.ensures (c.write_status.ensures.out_after ∙ into-ok status_bytes _ (sym c.in-Ok.is ∙ c.status_at.ensures))

pub returns-in-Err : goal.returns-in-Err
returns-in-Err c = tells status_bytes _ (sym c.in-Err.is ∙ c.status_at.ensures) c.number.ensures
