use Rattle.wire.specs.Places.{rule_bytes}
use mathlib.Core.Path.{sym, ◌∙◌}
use Rattle.exports.proofs.Laws.{into-ok, tells, numbered_is}
use Rattle.exports.proofs.update.ergo_rule_at.Goals as goal

pub returns-in-Ok : goal.returns-in-Ok
returns-in-Ok c = numbered_is c.write_rule.result c.number_of.ensures (c.write_rule.ensures.out_after ∙ into-ok rule_bytes _ (sym c.in-Ok.is ∙ c.rule_at.ensures))

pub returns-in-Err : goal.returns-in-Err
returns-in-Err c = tells rule_bytes _ (sym c.in-Err.is ∙ c.rule_at.ensures) c.number.ensures
