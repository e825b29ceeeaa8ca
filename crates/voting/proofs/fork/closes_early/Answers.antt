use Rattle.voting.specs.ForkPart.{closes_early}
use Rattle.std.proofs.Common.{refl}
use Rattle.voting.proofs.fork.closes_early.Goals as goal

pub returns : goal.returns
unfolding closes_early
returns c = refl
