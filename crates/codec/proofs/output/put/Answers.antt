use Rattle.std.proofs.Common.{sym}
use lib.Seq.{set_out}
use Rattle.codec.proofs.output.put.Goals as goal

pub returns-then-out-at : goal.returns-then-out-at
returns-then-out-at c = sym (set_out c.args.out.now c.args.at c.args.b c.if-out-at.true)
