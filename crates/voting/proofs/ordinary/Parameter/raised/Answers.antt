use Rattle.std.proofs.Common.{arith}
use mir.ValLaws.{to_z-of_z}
use Rattle.voting.specs.Ordinary.{raised}
use Rattle.voting.proofs.Laws.Step.{up_fits, greatest-small, sized}
use Rattle.voting.proofs.ordinary.Parameter.raised.Goals as goal

pub overflow_add-result : goal.overflow_add-result
overflow_add-result c = grind (arith, to_z-of_z, up_fits, greatest-small, sized)

pub returns-then-z-greatest : goal.returns-then-z-greatest
unfolding raised
returns-then-z-greatest c = grind (arith, to_z-of_z, up_fits, greatest-small, sized)

pub returns : goal.returns
unfolding raised
returns c = grind (arith, to_z-of_z)
