use Rattle.std.proofs.Common.{◌∙◌}
use Rattle.voting.proofs.Laws.Boundary.{goes-on-is}
use Rattle.voting.proofs.boundary.goes_on.Goals as goal

pub returns : goal.returns
returns c = c.unwrap_or.ensures ∙ goes-on-is c.args.table c.args.answer c.no_round-round.result c.no_round-round.ensures
