use Rattle.wire.specs.Values.{table_at}
use Rattle.wire.proofs.values.table_at.Goals as goal

pub returns : goal.returns
unfolding table_at
returns c = rw (c.slots_at.ensures, c.fork_at.ensures)
