use Rattle.std.proofs.Common.{refl}
use Rattle.voting.specs.Sweep.{begin_sweep}
use Rattle.voting.proofs.boundary.begin.Goals as goal

pub returns : goal.returns
unfolding begin_sweep
returns c = refl
