use Rattle.wire.specs.Values.{table_bytes}
use Rattle.wire.proofs.Back.{table-back}
use Rattle.wire.proofs.Laws.{joined}
use Rattle.wire.proofs.values.put_table.Goals as goal

pub returns : goal.returns
unfolding table_bytes
returns c = record {
  put = joined c.put_slots.ensures.put c.put_fork.ensures.put;
  back = table-back _ c.put_slots.ensures.put.long c.put_slots.ensures.back c.put_fork.ensures.back;
}
