use Rattle.std.proofs.Common.{arith}
use mir.ValLaws.{to_z-of_z}
use Rattle.voting.specs.ForkPart.{two_for_one, forced}
use Rattle.voting.proofs.fork.forced.Goals as goal

pub returns : goal.returns
unfolding forced
returns c = c.version_by.ensures two_for_one (λ z y p. grind (arith, to_z-of_z))
