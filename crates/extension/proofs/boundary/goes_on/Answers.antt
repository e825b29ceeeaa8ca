use mathlib.Core.Path.{◌∙◌}
use Rattle.extension.proofs.Laws.Boundary.{goes-on-is}
use Rattle.extension.proofs.boundary.goes_on.Goals as goal

pub returns : goal.returns
returns c = c.unwrap_or.ensures ∙ goes-on-is c.args.table c.args.answer c.no_update.result c.no_update.ensures
