use Rattle.wire.proofs.Back.{fork-back}
use Rattle.wire.specs.Values.{fork_bytes}
use Rattle.wire.proofs.Laws.{joined}
use Rattle.wire.proofs.values.put_fork.Goals as goal

pub returns : goal.returns
unfolding fork_bytes
returns c = record {
  put = joined (joined c.put_value.ensures.put c.put_value-2.ensures.put) c.put_value-3.ensures.put;
  back = fork-back _ c.put_value.ensures.back c.put_value-2.ensures.back c.put_value-3.ensures.back;
}
