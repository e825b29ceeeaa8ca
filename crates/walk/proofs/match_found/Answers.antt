use mathlib.Core.Path.{◌∙◌}
use native.Mathlib.Omega.{arith}
use Rattle.walk.proofs.Laws.Match.{match-here, match-next, match-fork}
use Rattle.walk.proofs.match_found.Goals as goal

pub returns-then-differs : goal.returns-then-differs
returns-then-differs c = match-here _ _ _ c.loop-k.invariant c.loop-k-test.true _ c.differs.ensures c.if-differs.true

pub loop-k-preserved : goal.loop-k-preserved
loop-k-preserved c = match-next _ _ _ c.loop-k.invariant c.loop-k-test.true _ c.differs.ensures c.if-differs.false

pub returns : goal.returns
returns c = c.match_forks.ensures ∙ match-fork _ _ _ c.loop-k.invariant (omega arith) c.loop-k-test.false
