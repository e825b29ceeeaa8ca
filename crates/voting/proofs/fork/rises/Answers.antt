use Rattle.voting.specs.ForkPart.{rises}
use Rattle.std.proofs.Common.{refl}
use Rattle.voting.proofs.fork.rises.Goals as goal

pub returns : goal.returns
unfolding rises
returns c = refl
