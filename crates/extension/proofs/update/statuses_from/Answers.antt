use mathlib.Core.Path.{sym, ◌∙◌}
use Rattle.voting.proofs.Laws.Tests.{early}
use Rattle.extension.proofs.Laws.Section.{left_none, left-stop, left-item, closed-done, closed-stop, closed-item}
use Rattle.extension.proofs.Laws.Update.{status-read, status-unread, from-count, from-unreadable}
use Rattle.extension.proofs.update.statuses_from.Goals as goal

pub returns-in_err-end : goal.returns-in_err-end
returns-in_err-end c = early _ c.from_residual-in_err-end.ensures.1
    ∙ closed-stop _ _ _ _ (left-stop _ _ _ _ c.loop-test.true _ (status-unread _ _ _ (sym c.in_err-end.was ∙ c.read_status.ensures)))
    ∙ c.loop.invariant
    ∙ from-count _ _ _ (sym c.in_ok-count.was ∙ c.items_at.ensures)

pub loop-preserved : goal.loop-preserved
loop-preserved c = closed-item _ _ _ _ _ (left-item _ _ _ _ c.loop-test.true _ _ (status-read _ _ _ (sym c.in_ok-end.was ∙ c.read_status.ensures)))
    ∙ c.loop.invariant

pub returns : goal.returns
returns c = closed-done _ _ _ _ (left_none _ _ _ _ c.loop-test.false) ∙ c.loop.invariant
    ∙ from-count _ _ _ (sym c.in_ok-count.was ∙ c.items_at.ensures)

pub returns-in_err-count : goal.returns-in_err-count
returns-in_err-count c = early _ c.from_residual.ensures.1 ∙ from-unreadable _ _ _ (sym c.in_err-count.was ∙ c.items_at.ensures)
