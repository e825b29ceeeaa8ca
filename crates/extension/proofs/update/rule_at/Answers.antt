use mathlib.Core.Path.{◌∙◌}
use Rattle.extension.proofs.Laws.Update.{rule-long, rule-short}
use Rattle.extension.proofs.update.rule_at.Goals as goal

pub returns-then-bytes-gt-INPUT_MOST : goal.returns-then-bytes-gt-INPUT_MOST
returns-then-bytes-gt-INPUT_MOST c = rule-long _ _ c.if-bytes-gt-INPUT_MOST.true

pub returns : goal.returns
returns c = c.read_rule.ensures ∙ rule-short _ _ c.if-bytes-gt-INPUT_MOST.false
