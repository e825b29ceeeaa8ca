use Rattle.legal.proofs.Laws.Next.{step_block, step_row, step-one}
use Rattle.legal.proofs.next.step.Goals as goal

pub returns-then-n-eq0 : goal.returns-then-n-eq0
returns-then-n-eq0 c = step_block _ c.if-n-eq0.true

pub returns-then-n-eq0-2 : goal.returns-then-n-eq0-2
returns-then-n-eq0-2 c = step_row _ c.if-n-eq0.false c.if-n-eq0-2.true

pub returns : goal.returns
returns c = step-one _ c.if-n-eq0.false c.if-n-eq0-2.false
