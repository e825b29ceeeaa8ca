use mathlib.Core.Path.{◌∙◌}
use mir.Syntax.{w32}
use Rattle.codec.proofs.Laws.Signed.{pos-cast}
use Rattle.extension.proofs.Laws.Mandatory.{below-zero, from_zero, flag-of}
use Rattle.extension.proofs.mandatory.rule_may_not_be_disabled.Goals as goal

pub returns-then-id-lt0 : goal.returns-then-id-lt0
returns-then-id-lt0 c = below-zero c.args.id c.ranges.id c.if-id-lt0.true

pub overflow_cast-id : goal.overflow_cast-id
overflow_cast-id c = pos-cast w32 c.args.id c.ranges.id c.if-id-lt0.false

pub returns : goal.returns
returns c = c.flag_in.ensures
    ∙ flag-of _ _ c.mandatory_flags.ensures
    ∙ from_zero c.args.id c.ranges.id c.if-id-lt0.false
