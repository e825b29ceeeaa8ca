use Rattle.std.proofs.Common.{arith}
use Rattle.counting.specs.Count.{count}
use Rattle.voting.proofs.header.times.Goals as goal

pub returns : goal.returns
unfolding count
returns c = grind arith
