use Rattle.std.proofs.Common.{arith}
use mir.ValLaws.{to_z-of_z}
use Rattle.voting.specs.Ordinary.{parameter_min}
use Rattle.voting.proofs.ordinary.parameter_min.Goals as goal

pub returns : goal.returns
unfolding parameter_min
returns c = grind (arith, to_z-of_z)
