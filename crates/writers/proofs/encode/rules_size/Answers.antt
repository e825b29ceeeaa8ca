use Rattle.std.proofs.Common.{length, get_or, ap, arith}
use Rattle.codec.proofs.Laws.VlqTrip.{at-most-ten}
use Rattle.writers.proofs.Laws.Encode.{rules-end, rules-length}
use Rattle.writers.proofs.encode.rules_size.Goals as goal

pub overflow_add-n : goal.overflow_add-n
overflow_add-n c = omega (arith, c.size-n.ensures, at-most-ten (get_or c.args.rules.now c.loop-rule.rule-index 0))

pub loop-rule-preserved : goal.loop-rule-preserved
loop-rule-preserved c = let i = c.loop-rule.rule-index in
    let s = c.args.rules.now in
    omega (arith, rules-length s i c.loop-rule-test.true, c.size-n.ensures, at-most-ten (get_or s i 0))

pub returns : goal.returns
returns c = omega (arith, ap length (rules-end c.args.rules.now c.loop-rule.rule-index c.loop-rule-test.false))
