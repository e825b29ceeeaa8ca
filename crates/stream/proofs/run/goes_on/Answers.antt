use Rattle.std.proofs.Common.{refl}
use Rattle.stream.specs.Run.{after_replay}
use Rattle.stream.proofs.run.goes_on.Goals as goal

pub returns : goal.returns
unfolding after_replay
returns c = refl
