use Rattle.walk.proofs.Laws.Walk.{refused-is}
use Rattle.walk.proofs.walk_body.Goals as goal

pub returns-in-Err : goal.returns-in-Err
returns-in-Err c = refused-is _ _ (rw c.in-Err.is at c.read_head.ensures.value) _ c.refused.ensures

pub walk_fields-requires : goal.walk_fields-requires
walk_fields-requires c = (rw c.in-Ok.is at c.read_head.ensures.short, rw c.in-Ok.is at c.read_head.ensures.value)
