use Rattle.std.proofs.Common.{sym, ◌∙◌, arith}
use Rattle.codec.specs.Vlq.{vlq_bytes}
use Rattle.codec.proofs.Laws.Output.{sets-out}
use Rattle.codec.proofs.Laws.Vlq.{put_last, put-more}
use Rattle.codec.proofs.vlq.put.Goals as goal

pub returns-then-v-lt128 : goal.returns-then-v-lt128
returns-then-v-lt128 c = let l = c.loop-i in sym (put_last l.v l.out l.i c.if-v-lt128.true) ∙ l.invariant

pub loop-i-preserved : goal.loop-i-preserved
loop-i-preserved c = let l = c.loop-i in sym (put-more l.v l.out l.i (omega arith) c.if-v-lt128.false) ∙ l.invariant

pub returns : goal.returns
returns c = let l = c.loop-i in sym (sets-out (vlq_bytes l.v) l.out l.i (omega arith)) ∙ l.invariant
