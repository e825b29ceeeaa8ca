use Rattle.std.proofs.Common.{drop, sym, ◌∙◌}
use Rattle.codec.proofs.Laws.Output.{sets-out, sets-none, sets-one}
use Rattle.codec.proofs.output.put_bytes.Goals as goal

pub loop-b-preserved : goal.loop-b-preserved
loop-b-preserved c = let l = c.loop-b in sym (sets-one _ l.b-index c.loop-b-test.true l.out l.k) ∙ l.invariant

pub returns : goal.returns
returns c = let l = c.loop-b in sym (sets-none _ l.b-index c.loop-b-test.false l.out l.k) ∙ l.invariant

pub returns-then-out-k : goal.returns-then-out-k
returns-then-out-k c = let l = c.loop-b in
    sym (sets-out (drop l.b-index c.args.bytes.now) l.out l.k c.if-out-k.true) ∙ l.invariant
