use Rattle.std.proofs.Common.{[], length, ◌∙◌, arith}
use Rattle.codec.proofs.Laws.VlqTrip.{at-most-ten}
use Rattle.codec.proofs.Laws.Output.{short, done}
use Rattle.extension.specs.Encode.{encoded}
use Rattle.writers.proofs.Laws.EncodeTrip.{rules-back}
use Rattle.writers.proofs.Laws.Encode.{rules-refused, rules-written, rules-size, rules-stored}
use Rattle.writers.proofs.encode.encode_disabled_rules.Goals as goal

pub returns-then-rules-gt-ITEMS_MOST : goal.returns-then-rules-gt-ITEMS_MOST
returns-then-rules-gt-ITEMS_MOST c = record {
  out_after = rules-refused _ _ c.if-rules-gt-ITEMS_MOST.true;
  back = rules-back _ (λ i. (c.shared_slice_known-1.given i).fits);
}

pub overflow_add-second : goal.overflow_add-second
overflow_add-second c = omega (arith, c.rules_size.ensures, c.size-first.ensures, at-most-ten (length c.args.rules.now))

pub overflow_add-need : goal.overflow_add-need
overflow_add-need c = omega (arith, c.rules_size.ensures, c.size-first.ensures, at-most-ten (length c.args.rules.now))

pub returns-then-out-need : goal.returns-then-out-need
returns-then-out-need c = let rules = c.args.rules.now in
    let cells = c.args.out.now in record {
      out_after = short (encoded rules []) cells _ (rules-size rules cells c.size-first.ensures c.rules_size.ensures.0) c.if-out-need.true ∙ rules-written rules cells c.if-rules-gt-ITEMS_MOST.false;
      back = rules-back rules (λ i. (c.shared_slice_known-1.given i).fits);
    }

pub returns : goal.returns
returns c = let rules = c.args.rules.now in
    let cells = c.args.out.now in
    let pf = c.size-first.ensures in
    let pr = c.rules_size.ensures.0 in
    let ps = c.put.ensures in
    let pt = c.put_rules.ensures in record {
      out_after = done (encoded rules []) cells _ (rules-size rules cells pf pr) c.if-out-need.false _ (rules-stored rules cells pf pr ps pt c.put-2.ensures) ∙
          rules-written rules cells c.if-rules-gt-ITEMS_MOST.false;
      back = rules-back rules (λ i. (c.shared_slice_known-1.given i).fits);
    }
