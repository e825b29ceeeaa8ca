use Rattle.std.proofs.Common.{arith}
use mir.ValLaws.{to_z-of_z}
use Rattle.voting.specs.Ordinary.{parameter_step}
use Rattle.voting.proofs.ordinary.parameter_step.Goals as goal

pub returns : goal.returns
unfolding parameter_step
returns c = grind (arith, to_z-of_z)
