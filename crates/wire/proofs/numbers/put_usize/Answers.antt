use mathlib.Core.Path.{refl}
use Rattle.wire.proofs.Laws.{renamed, low-bytes}
use Rattle.wire.proofs.numbers.put_usize.Goals as goal

pub returns : goal.returns
returns c = renamed (low-bytes _ _ refl) c.put_u32.ensures.put
