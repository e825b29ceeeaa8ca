use Rattle.std.proofs.Common.{arith}
use mir.ValLaws.{to_z-of_z}
use Rattle.voting.specs.ForkPart.{version_by}
use Rattle.voting.proofs.fork.version_by.Goals as goal

pub returns-then-not-changes : goal.returns-then-not-changes
unfolding version_by
returns-then-not-changes g c n h = grind arith

pub returns-in_err-z : goal.returns-in_err-z
unfolding version_by
returns-in_err-z g c n h = grind arith

pub returns : goal.returns
unfolding version_by
returns g c n h = grind (arith, to_z-of_z)
