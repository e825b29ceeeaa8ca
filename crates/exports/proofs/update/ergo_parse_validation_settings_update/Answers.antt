use Rattle.wire.specs.Places.{update_bytes}
use mathlib.Core.Path.{sym, ◌∙◌}
use Rattle.exports.proofs.Laws.{into-ok, tells, numbered_is}
use Rattle.exports.proofs.update.ergo_parse_validation_settings_update.Goals as goal

pub returns-in-Ok : goal.returns-in-Ok
returns-in-Ok c = numbered_is c.write_update.result c.number_of.ensures (c.write_update.ensures.out_after ∙ into-ok update_bytes _ (sym c.in-Ok.is ∙ c.parse_validation_settings_update.ensures.value))

pub returns-in-Err : goal.returns-in-Err
returns-in-Err c = tells update_bytes _ (sym c.in-Err.is ∙ c.parse_validation_settings_update.ensures.value) c.number.ensures
