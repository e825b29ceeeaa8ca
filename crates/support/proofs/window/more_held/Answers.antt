use Rattle.support.proofs.Laws.Calls.{held_more, held_all}
use Rattle.support.proofs.window.more_held.Goals as goal

pub returns-then-held-length : goal.returns-then-held-length
returns-then-held-length c = held_more _ _ c.if-held-length.true

pub returns-else-held-length : goal.returns-else-held-length
returns-else-held-length c = held_all _ _ c.if-held-length.false
