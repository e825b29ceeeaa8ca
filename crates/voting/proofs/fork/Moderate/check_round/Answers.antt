use Rattle.std.proofs.Common.{arith}
use mir.ValLaws.{to_z-of_z}
use Rattle.voting.specs.ForkCheck.{check_round}
use Rattle.voting.proofs.fork.Moderate.check_round.Goals as goal

pub returns-in_default : goal.returns-in_default
unfolding check_round
returns-in_default c = grind arith

pub returns-in_err-n : goal.returns-in_err-n
unfolding check_round
returns-in_err-n c = grind (arith, to_z-of_z)

pub returns-then-is_barred : goal.returns-then-is_barred
unfolding check_round
returns-then-is_barred c = grind (arith, to_z-of_z)

pub returns : goal.returns
unfolding check_round
returns c = grind (arith, to_z-of_z)
