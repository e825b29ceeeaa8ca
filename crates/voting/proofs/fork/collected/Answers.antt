use Rattle.voting.specs.ForkPart.{collected}
use mir.ValLaws.{to_z-of_z}
use Rattle.std.proofs.Common.{w32}
use Rattle.voting.proofs.fork.collected.Goals as goal

pub returns-then-voting : goal.returns-then-voting
unfolding collected
returns-then-voting c = rw (c.if-voting.true, to_z-of_z w32 c.args.total c.ranges.total)

pub returns : goal.returns
unfolding collected
returns c = rw c.if-voting.false
