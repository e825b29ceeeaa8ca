use Rattle.std.proofs.Common.{arith}
use mir.ValLaws.{to_z-of_z}
use Rattle.voting.specs.Ordinary.{step_size}
use Rattle.voting.proofs.ordinary.step_size.Goals as goal

pub returns-then-fixed-gt0 : goal.returns-then-fixed-gt0
unfolding step_size
returns-then-fixed-gt0 c = grind (arith, to_z-of_z)

pub returns : goal.returns
unfolding step_size
returns c = grind (arith, to_z-of_z)
