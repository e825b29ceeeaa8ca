use Rattle.std.proofs.Common.{arith}
use mir.ValLaws.{to_z-of_z}
use Rattle.voting.specs.ForkCheck.{epochs_after}
use Rattle.voting.specs.ForkPart.{phase_at}
use Rattle.voting.proofs.Laws.Integers.{at-exactly, at_most}
use Rattle.voting.proofs.fork.Moderate.phase_at.Goals as goal

pub returns : goal.returns
unfolding phase_at epochs_after
returns c = grind (arith, to_z-of_z, at-exactly, at_most)
