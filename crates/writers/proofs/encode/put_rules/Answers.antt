use Rattle.std.proofs.Common.{get_or, drop, sym, ◌∙◌, rules}
use Rattle.codec.proofs.Laws.VlqTrip.{at-most-ten}
use Rattle.codec.proofs.Laws.Output.{sets-out}
use Rattle.extension.specs.Encode.{rules_bytes}
use Rattle.writers.proofs.Laws.Encode.{rules-end, rules-put}
use Rattle.writers.proofs.encode.put_rules.Goals as goal

pub returns-then-out-k : goal.returns-then-out-k
returns-then-out-k c = let l = c.loop-rule in
    sym (sets-out (rules_bytes (drop l.rule-index c.args.rules.now)) l.out l.k c.if-out-k.true) ∙ l.invariant

pub overflow_add-k : goal.overflow_add-k
overflow_add-k c = let z = at-most-ten (get_or c.args.rules.now c.loop-rule.rule-index 0) in
    search rules

pub loop-rule-preserved : goal.loop-rule-preserved
loop-rule-preserved c = let l = c.loop-rule in
    rw (c.size-k.ensures, c.put.ensures) (sym (rules-put c.args.rules.now l.rule-index c.loop-rule-test.true l.out l.k) ∙ l.invariant)

pub returns : goal.returns
returns c = let l = c.loop-rule in
    rw (rules-end c.args.rules.now l.rule-index c.loop-rule-test.false) at l.invariant
