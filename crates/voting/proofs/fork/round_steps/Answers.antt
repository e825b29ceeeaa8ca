use Rattle.voting.specs.ForkPart.{round_steps}
use mir.ValLaws.{to_z-of_z}
use Rattle.std.proofs.Common.{w32}
use Rattle.voting.proofs.fork.round_steps.Goals as goal

pub returns : goal.returns
unfolding round_steps
returns c = rw (c.stored.ensures, to_z-of_z w32 c.args.total c.ranges.total, c.restarts-opened.ensures, c.closes_late.ensures, c.closes_early.ensures, c.rises.ensures)
