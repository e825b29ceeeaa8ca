use Rattle.support.proofs.Laws.Calls.{place-first, place-next}
use Rattle.support.proofs.window.place_after.Goals as goal

pub returns-then-next-length : goal.returns-then-next-length
returns-then-next-length c = place-first _ _ c.if-next-length.true

pub returns-else-next-length : goal.returns-else-next-length
returns-else-next-length c = place-next _ _ c.if-next-length.false
