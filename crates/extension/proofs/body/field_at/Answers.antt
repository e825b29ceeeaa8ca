use mathlib.Core.Path.{◌∙◌}
use Rattle.extension.proofs.Laws.Body.{at_long, at_here}
use Rattle.extension.proofs.body.field_at.Goals as goal

pub returns-then-body-gt-INPUT_MOST : goal.returns-then-body-gt-INPUT_MOST
returns-then-body-gt-INPUT_MOST c = at_long _ _ c.if-body-gt-INPUT_MOST.true

pub returns : goal.returns
returns c = c.read_field.ensures ∙ at_here _ _ c.if-body-gt-INPUT_MOST.false
