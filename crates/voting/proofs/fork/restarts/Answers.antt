use Rattle.voting.specs.ForkPart.{restarts}
use Rattle.std.proofs.Common.{refl}
use Rattle.voting.proofs.fork.restarts.Goals as goal

pub returns : goal.returns
unfolding restarts
returns c = refl
