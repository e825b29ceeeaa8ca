use Rattle.wire.proofs.Back.{tally-back}
use Rattle.wire.specs.Values.{tally_bytes}
use Rattle.wire.proofs.Laws.{joined}
use Rattle.wire.proofs.values.put_tally.Goals as goal

pub returns : goal.returns
unfolding tally_bytes
returns c = record {
  put = joined (joined c.put_entry.ensures.put c.put_entry-2.ensures.put) c.put_entry-3.ensures.put;
  back = tally-back _ c.put_entry.ensures.back c.put_entry-2.ensures.back c.put_entry-3.ensures.back;
}
