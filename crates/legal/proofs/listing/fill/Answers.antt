use mathlib.Core.Path.{ap, ◌∙◌}
use Rattle.legal.specs.Search.{first_from}
use Rattle.legal.proofs.Laws.Listing.{filling-starts, head-again, filling-less, filling-on, too_short, filled-all, filled-up}
use borrow.Author.Rules.{rules}
use Rattle.legal.proofs.listing.fill.Goals as goal

pub returns-then-out-lt-LINE_MOST : goal.returns-then-out-lt-LINE_MOST
returns-then-out-lt-LINE_MOST c = record {
  value = (too_short c.args.at c.args.out.now c.if-out-lt-LINE_MOST.true).0;
  lines = (too_short c.args.at c.args.out.now c.if-out-lt-LINE_MOST.true).1.0;
  inside = (too_short c.args.at c.args.out.now c.if-out-lt-LINE_MOST.true).1.1.0;
  goes_on = (too_short c.args.at c.args.out.now c.if-out-lt-LINE_MOST.true).1.1.1;
}

pub loop-n-init : goal.loop-n-init
loop-n-init c = filling-starts _ _ (head-again _ _ c.first_from-n.ensures)

pub returns-then-out-wrote-lt-LINE_MOST : goal.returns-then-out-wrote-lt-LINE_MOST
returns-then-out-wrote-lt-LINE_MOST c = record {
  value = (filled-up _ _ _ (c.first_from-n.ensures ∙ ap first_from c.position_of.ensures) (search rules) _ _ _ c.loop-n.invariant c.if-out-wrote-lt-LINE_MOST.true _ c.stopped.ensures).0;
  lines = (filled-up _ _ _ (c.first_from-n.ensures ∙ ap first_from c.position_of.ensures) (search rules) _ _ _ c.loop-n.invariant c.if-out-wrote-lt-LINE_MOST.true _ c.stopped.ensures).1.0;
  inside = (filled-up _ _ _ (c.first_from-n.ensures ∙ ap first_from c.position_of.ensures) (search rules) _ _ _ c.loop-n.invariant c.if-out-wrote-lt-LINE_MOST.true _ c.stopped.ensures).1.1.0;
  goes_on = (filled-up _ _ _ (c.first_from-n.ensures ∙ ap first_from c.position_of.ensures) (search rules) _ _ _ c.loop-n.invariant c.if-out-wrote-lt-LINE_MOST.true _ c.stopped.ensures).1.1.1;
}

pub loop-n-smaller : goal.loop-n-smaller
loop-n-smaller c = filling-less _ _ _ _ _ c.loop-n.invariant (search rules) (search rules) _ _ c.put_line-wrote.ensures (search rules)

pub loop-n-preserved : goal.loop-n-preserved
loop-n-preserved c = filling-on _ _ _ _ _ c.loop-n.invariant (search rules) (search rules) _ _ c.put_line-wrote.ensures _ c.first_from-n-in-loop-n.ensures (search rules)

pub returns : goal.returns
returns c = record {
  value = (filled-all _ _ _ (c.first_from-n.ensures ∙ ap first_from c.position_of.ensures) (search rules) _ _ _ c.loop-n.invariant c.loop-n-test.false _ c.stopped-2.ensures).0;
  lines = (filled-all _ _ _ (c.first_from-n.ensures ∙ ap first_from c.position_of.ensures) (search rules) _ _ _ c.loop-n.invariant c.loop-n-test.false _ c.stopped-2.ensures).1.0;
  inside = (filled-all _ _ _ (c.first_from-n.ensures ∙ ap first_from c.position_of.ensures) (search rules) _ _ _ c.loop-n.invariant c.loop-n-test.false _ c.stopped-2.ensures).1.1.0;
  goes_on = (filled-all _ _ _ (c.first_from-n.ensures ∙ ap first_from c.position_of.ensures) (search rules) _ _ _ c.loop-n.invariant c.loop-n-test.false _ c.stopped-2.ensures).1.1.1;
}
