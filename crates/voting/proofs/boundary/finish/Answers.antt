use Rattle.std.proofs.Common.{sym, ◌∙◌}
use Rattle.voting.specs.Sweep.{finish_sweep}
use Rattle.voting.proofs.Laws.Tests.{early}
use Rattle.voting.proofs.boundary.finish.Goals as goal

pub returns-in_err-part : goal.returns-in_err-part
unfolding finish_sweep
returns-in_err-part c = early _ c.from_residual.ensures.1 ∙ rw (sym c.fork_part.ensures ∙ c.in_err-part.was)

pub returns-in_err-voted : goal.returns-in_err-voted
unfolding finish_sweep
returns-in_err-voted c = early _ c.from_residual-in_err-voted.ensures.1 ∙ rw (sym c.fork_part.ensures ∙ c.in_ok-part.was, c.in_err-voted.was)

pub returns : goal.returns
unfolding finish_sweep
returns c = rw (sym c.fork_part.ensures ∙ c.in_ok-part.was, c.in_ok-voted.was, c.with_subblocks.ensures)
