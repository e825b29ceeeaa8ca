use Rattle.std.proofs.Common.{refl}
use Rattle.stream.specs.Run.{too_short}
use Rattle.stream.proofs.run.too_short.Goals as goal

pub returns : goal.returns
unfolding too_short
returns c = refl
