use Rattle.stream.proofs.Laws.Run.{missing-whole, missing-short, missing-none}
use Rattle.std.proofs.Common.{Err, ap, ◌∙◌, rules}
use Rattle.stream.proofs.run.missing_of.Goals as goal

pub returns-in-Err-Short : goal.returns-in-Err-Short
returns-in-Err-Short c = missing-short _ _ _ c.record_of.ensures _ (c.in-Err-Short.is ∙ ap Err c.in-Err-Short.field-0-is)

pub returns-in_default : goal.returns-in_default
returns-in_default c = missing-none _ _ _ c.record_of.ensures (search rules)

pub returns-in_default-2 : goal.returns-in_default-2
returns-in_default-2 c = missing-whole _ _ _ c.record_of.ensures _ c.in_default.is
