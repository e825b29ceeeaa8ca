use Rattle.std.proofs.Common.{arith}
use mir.ValLaws.{to_z-of_z}
use Rattle.voting.specs.ForkCheck.{epochs_after, round_open}
use Rattle.voting.proofs.Laws.Integers.{at_most}
use Rattle.voting.proofs.fork.round_open.Goals as goal

pub returns-in-None : goal.returns-in-None
unfolding round_open
returns-in-None c = grind arith

pub returns-in-None-votes : goal.returns-in-None-votes
unfolding round_open
returns-in-None-votes c = grind arith

pub returns-in-Some-votes : goal.returns-in-Some-votes
unfolding round_open epochs_after
returns-in-Some-votes c = grind (arith, to_z-of_z, at_most)
