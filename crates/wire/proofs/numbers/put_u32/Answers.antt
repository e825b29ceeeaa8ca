use Rattle.std.proofs.Common.{rules}
use Rattle.wire.proofs.Back.{number-back}
use Rattle.wire.proofs.Laws.{number_put}
use Rattle.wire.proofs.numbers.put_u32.Goals as goal

pub returns : goal.returns
returns c = record {
  put = number_put _ c.to_be_bytes.ensures c.put_bytes.ensures;
  back = number-back _ (search rules);
}
