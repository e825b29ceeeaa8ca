use Rattle.std.proofs.Common.{arith, rules}
use Rattle.support.proofs.Laws.Calls.{left_is}
use Rattle.support.proofs.window.leave.Goals as goal

pub returns : goal.returns
returns c = left_is _ _ _ _ c.from-i.ensures (search rules) (omega (arith, c.from.ensures))
