use Rattle.std.proofs.Common.{arith}
use mir.ValLaws.{to_z-of_z}
use Rattle.voting.specs.ForkPart.{by_start, fork_part}
use Rattle.voting.proofs.fork.fork_part.Goals as goal

pub returns-then-config-eq0 : goal.returns-then-config-eq0
unfolding fork_part
returns-then-config-eq0 c = grind arith

pub returns-in_err-settings : goal.returns-in_err-settings
unfolding fork_part
returns-in_err-settings c = grind arith

pub returns-in-None : goal.returns-in-None
unfolding fork_part by_start
returns-in-None c = grind arith

pub returns-in-Some : goal.returns-in-Some
unfolding fork_part by_start
returns-in-Some c = grind (arith, to_z-of_z)
