use mathlib.Core.Path.{refl}
use Rattle.codec.proofs.Laws.Output.{short, done}
use Rattle.wire.proofs.numbers.write_bytes.Goals as goal

pub returns-then-out-bytes : goal.returns-then-out-bytes
returns-then-out-bytes c = short _ _ _ refl c.if-out-bytes.true

pub returns : goal.returns
returns c = done _ _ _ refl c.if-out-bytes.false _ c.put_bytes.ensures
