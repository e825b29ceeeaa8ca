use Rattle.std.proofs.Common.{rules}
use Rattle.support.proofs.Laws.Calls.{joined_is}
use Rattle.support.proofs.window.join.Goals as goal

pub returns : goal.returns
returns c = joined_is _ _ _ _ c.from-i.ensures (search rules) c.from.ensures
