use Rattle.std.proofs.Common.{arith}
use mir.ValLaws.{to_z-of_z}
use Rattle.voting.specs.Ordinary.{hundredth}
use Rattle.voting.proofs.ordinary.hundredth.Goals as goal

pub returns : goal.returns
unfolding hundredth
returns c = grind (arith, to_z-of_z)
