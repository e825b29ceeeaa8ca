use Rattle.voting.specs.ForkPart.{reads_total}
use Rattle.std.proofs.Common.{refl}
use Rattle.voting.proofs.fork.reads_total.Goals as goal

pub returns : goal.returns
unfolding reads_total
returns c = refl
