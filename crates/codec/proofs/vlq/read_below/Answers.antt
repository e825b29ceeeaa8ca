use Rattle.std.proofs.Common.{sym, ◌∙◌}
use Rattle.codec.proofs.Laws.Vlq.{fits, over, unread}
use Rattle.codec.proofs.vlq.read_below.Goals as goal

pub returns-then-n-limit : goal.returns-then-n-limit
returns-then-n-limit c = fits _ _ _ _ (sym c.in_ok-n.was ∙ c.read_from.ensures) c.if-n-limit.true

pub returns-else-n-limit : goal.returns-else-n-limit
returns-else-n-limit c = over _ _ _ _ (sym c.in_ok-n.was ∙ c.read_from.ensures) c.if-n-limit.false

pub returns-in_err-n : goal.returns-in_err-n
returns-in_err-n c = c.from_residual.ensures ∙ unread _ _ _ (sym c.in_err-n.was ∙ c.read_from.ensures)
