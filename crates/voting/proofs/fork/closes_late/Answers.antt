use Rattle.voting.specs.ForkPart.{closes_late}
use Rattle.std.proofs.Common.{refl}
use Rattle.voting.proofs.fork.closes_late.Goals as goal

pub returns : goal.returns
unfolding closes_late
returns c = refl
