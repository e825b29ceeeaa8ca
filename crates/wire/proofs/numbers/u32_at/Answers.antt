use Rattle.wire.proofs.Laws.{number_read}
use Rattle.wire.proofs.numbers.u32_at.Goals as goal

pub returns : goal.returns
returns c = number_read _ _ _ c.bytes_at.ensures _ c.from_be_bytes.ensures
