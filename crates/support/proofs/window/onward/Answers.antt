use Rattle.support.proofs.Laws.Calls.{onward-is}
use Rattle.support.proofs.window.onward.Goals as goal

pub returns : goal.returns
returns c = onward-is _ _ _ c.more_held.ensures c.place_after.ensures
