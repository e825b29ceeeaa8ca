use Rattle.std.proofs.Common.{◌≡◌, ◌∙◌, length, arith, rules, below_more}
use Rattle.wire.proofs.Back.{slots-back}
use Rattle.wire.proofs.Laws.{slots-put, all-put, length-mapped}
use Rattle.wire.proofs.values.put_slots.Goals as goal

pub loop-i-init : goal.loop-i-init
loop-i-init c = record { put = search rules; back = λ j q. absurd (omega arith) }

pub loop-i-preserved : goal.loop-i-preserved
loop-i-preserved c = let slots = c.args.slots in
    let l : length slots ≡ 9 = search (rules, length-mapped) in
    record {
      put = slots-put slots _ (omega arith) _ (omega arith) c.put_value.ensures.put ∙ c.loop-i.invariant.put;
      back = below_more _ _ c.loop-i.invariant.back c.put_value.ensures.back;
    }

pub returns : goal.returns
returns c = let slots = c.args.slots in
    let l : length slots ≡ 9 = search (rules, length-mapped) in
    let v = c.loop-i.invariant in
    record {
      put = all-put slots _ _ l c.loop-i-test.false v.put;
      back = slots-back 9 slots l (λ j q. v.back j (omega arith));
    }
