use Rattle.std.proofs.Common.{arith, refl}
use Rattle.codec.proofs.Laws.Output.{short, done}
use Rattle.stream.proofs.lines.hand_out.Goals as goal

pub returns-then-out-text : goal.returns-then-out-text
returns-then-out-text c = short c.args.text.now c.args.out.now _ refl (omega arith)

pub returns : goal.returns
returns c = done c.args.text.now c.args.out.now _ refl (omega arith) _ c.put_bytes.ensures
