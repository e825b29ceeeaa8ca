use Rattle.std.proofs.Common.{sym, ◌∙◌}
use Rattle.writers.proofs.Laws.Sizes.{sum-none, sum_over, sum-next}
use Rattle.writers.proofs.sizes.sum_is.Goals as goal

pub returns-then-left-size : goal.returns-then-left-size
returns-then-left-size c = sym (sum_over _ _ _ c.loop-size-test.true c.if-left-size.true) ∙ c.loop-size.invariant

pub loop-size-preserved : goal.loop-size-preserved
loop-size-preserved c = sym (sum-next _ _ _ c.loop-size-test.true c.if-left-size.false) ∙ c.loop-size.invariant

pub returns : goal.returns
returns c = sym (sum-none _ _ _ c.loop-size-test.false) ∙ c.loop-size.invariant
