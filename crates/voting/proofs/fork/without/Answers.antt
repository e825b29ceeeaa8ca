use Rattle.voting.specs.ForkPart.{without}
use Rattle.voting.proofs.fork.without.Goals as goal

pub returns-then-closes : goal.returns-then-closes
unfolding without
returns-then-closes c = rw c.if-closes.true

pub returns : goal.returns
unfolding without
returns c = rw c.if-closes.false
