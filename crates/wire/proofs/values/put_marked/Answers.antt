use Rattle.wire.proofs.Laws.{mark-put}
use Rattle.wire.proofs.values.put_marked.Goals as goal

pub returns : goal.returns
returns c = mark-put _ _ c.put.ensures c.put_u32.ensures.put
