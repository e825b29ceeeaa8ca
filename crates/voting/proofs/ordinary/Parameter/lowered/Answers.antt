use Rattle.std.proofs.Common.{arith}
use mir.ValLaws.{to_z-of_z}
use Rattle.voting.specs.Ordinary.{lowered}
use Rattle.voting.proofs.Laws.Step.{down_fits, least-small, sized}
use Rattle.voting.proofs.ordinary.Parameter.lowered.Goals as goal

pub overflow_sub-result : goal.overflow_sub-result
overflow_sub-result c = grind (arith, to_z-of_z, down_fits, least-small, sized)

pub returns-then-least-z : goal.returns-then-least-z
unfolding lowered
returns-then-least-z c = grind (arith, to_z-of_z, down_fits, least-small, sized)

pub returns : goal.returns
unfolding lowered
returns c = grind (arith, to_z-of_z)
