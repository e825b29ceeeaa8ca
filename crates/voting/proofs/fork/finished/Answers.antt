use Rattle.std.proofs.Common.{arith}
use Rattle.voting.specs.ForkPart.{finished}
use Rattle.voting.proofs.fork.finished.Goals as goal

pub returns-in_err-f : goal.returns-in_err-f
unfolding finished
returns-in_err-f c = grind arith

pub returns-in_err-fork : goal.returns-in_err-fork
unfolding finished
returns-in_err-fork c = grind arith

pub returns : goal.returns
unfolding finished
returns c = grind arith
