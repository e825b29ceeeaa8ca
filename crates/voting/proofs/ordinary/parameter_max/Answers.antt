use Rattle.std.proofs.Common.{arith}
use mir.ValLaws.{to_z-of_z}
use Rattle.voting.specs.Ordinary.{parameter_max}
use Rattle.voting.proofs.ordinary.parameter_max.Goals as goal

pub returns : goal.returns
unfolding parameter_max
returns c = grind (arith, to_z-of_z)
