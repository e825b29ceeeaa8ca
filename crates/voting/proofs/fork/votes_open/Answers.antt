use Rattle.std.proofs.Common.{arith}
use Rattle.voting.specs.Table.{lookup}
use Rattle.voting.specs.ForkCheck.{votes_open}
use Rattle.voting.proofs.fork.votes_open.Goals as goal

pub returns : goal.returns
unfolding votes_open lookup
returns c = grind arith
