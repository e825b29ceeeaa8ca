use Rattle.wire.specs.Numbers.{four_bytes}
use Rattle.wire.proofs.Laws.{joined}
use Rattle.wire.proofs.numbers.put_four.Goals as goal

pub returns : goal.returns
unfolding four_bytes
returns c = joined (joined (joined c.put_u32.ensures.put c.put_u32-2.ensures.put) c.put_usize.ensures) c.put_usize-2.ensures
