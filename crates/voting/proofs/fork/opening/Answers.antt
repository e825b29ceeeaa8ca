use Rattle.voting.specs.ForkPart.{finished, opening}
use Rattle.std.proofs.Common.{ap, ◌∙◌}
use Rattle.std.specs.Prelude.{Ok}
use Rattle.voting.proofs.fork.opening.Goals as goal

pub returns : goal.returns
unfolding opening
returns c = c.finished.ensures ∙ ap (finished c.args.config c.args.height _) (ap Ok c.begun.ensures)
