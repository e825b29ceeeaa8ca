use Rattle.std.proofs.Common.{sym, ◌∙◌}
use Rattle.codec.proofs.Laws.Vlq.{none, end, last, more, stops}
use Rattle.codec.proofs.vlq.+read_from.Goals as goal

pub returns-then-left-eq0 : goal.returns-then-left-eq0
returns-then-left-eq0 t c = none _ _ _ c.if-left-eq0.true

pub returns-then-s-at : goal.returns-then-s-at
returns-then-s-at t c = end _ _ _ c.if-s-at.true

pub returns-then-b-lt128 : goal.returns-then-b-lt128
returns-then-b-lt128 t c = last _ _ _ c.if-s-at.false c.if-left-eq0.false c.if-b-lt128.true

pub returns : goal.returns
returns t c =
    more _ _ _ c.if-s-at.false c.if-left-eq0.false c.if-b-lt128.false _ (sym c.in_ok-n.was ∙ c.read_from.ensures)

pub returns-in_err-n : goal.returns-in_err-n
returns-in_err-n t c = c.from_residual.ensures
    ∙ stops _ _ _ c.if-s-at.false c.if-left-eq0.false c.if-b-lt128.false (sym c.in_err-n.was ∙ c.read_from.ensures)
