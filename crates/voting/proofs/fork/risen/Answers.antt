use Rattle.std.proofs.Common.{arith}
use mir.ValLaws.{to_z-of_z}
use Rattle.voting.specs.ForkPart.{one_more, risen}
use Rattle.voting.proofs.fork.risen.Goals as goal

pub returns : goal.returns
unfolding risen
returns c = c.version_by.ensures one_more (λ z y p. grind (arith, to_z-of_z))
