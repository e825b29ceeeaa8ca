use mathlib.Core.Path.{sym, ◌∙◌}
use Rattle.voting.proofs.Laws.Tests.{early}
use Rattle.extension.proofs.Laws.Update.{rules-mandatory, statuses-refused, statuses-here}
use Rattle.extension.proofs.update.with_rules.Goals as goal

pub returns-then-rules : goal.returns-then-rules
returns-then-rules c = rules-mandatory _ _ _ c.requires c.if-rules.true

pub returns-in_err-statuses : goal.returns-in_err-statuses
returns-in_err-statuses c = early _ c.from_residual.ensures.1
    ∙ statuses-refused _ _ _ c.requires c.if-rules.false _ (sym c.in_err-statuses.was ∙ c.statuses_from.ensures)

pub returns : goal.returns
returns c = statuses-here _ _ _ c.requires c.if-rules.false _ (sym c.in_ok-statuses.was ∙ c.statuses_from.ensures)
