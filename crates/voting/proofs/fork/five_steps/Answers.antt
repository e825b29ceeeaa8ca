use Rattle.voting.specs.ForkPart.{five_steps}
use mir.ValLaws.{to_z-of_z}
use Rattle.std.proofs.Common.{◌∙◌, w32}
use Rattle.voting.proofs.fork.five_steps.Goals as goal

pub returns : goal.returns
unfolding five_steps
returns c = c.risen.ensures
    ∙ rw (c.rises.ensures, c.collected-fourth.ensures, to_z-of_z w32 c.args.total c.ranges.total, c.begun-third.ensures, c.restarts.ensures, c.without-second.ensures, c.closes_early.ensures, c.without-first.ensures, c.closes_late.ensures)
