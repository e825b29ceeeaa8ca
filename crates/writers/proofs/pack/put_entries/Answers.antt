use Rattle.std.proofs.Common.{◌+◌, sym, refl, ◌∙◌, arith, rules}
use Rattle.writers.specs.Pack.{parameter_bytes}
use Rattle.writers.proofs.Laws.Pack.{entry-most, left-none, put-next}
use Rattle.writers.proofs.pack.put_entries.Goals as goal

pub loop-k-init : goal.loop-k-init
unfolding parameter_bytes
loop-k-init c = (search rules, refl)

pub overflow_add-at : goal.overflow_add-at
overflow_add-at c = omega (arith, c.loop-k.invariant.0, c.entry_size-at.ensures, entry-most c.wrapping_add_u8-id.result c.get-v.result)

pub loop-k-preserved : goal.loop-k-preserved
loop-k-preserved c = let l = c.loop-k in (
  omega (arith, l.invariant.0, c.entry_size-at.ensures, entry-most c.wrapping_add_u8-id.result c.get-v.result),
  sym (put-next _ l.k (omega arith) c.wrapping_add_u8-id.ensures.value c.get-v.ensures c.entry_size-at.ensures l.out l.at c.put_entry.ensures) ∙ l.invariant.1,
)

pub returns-2 : goal.returns-2
returns-2 c = let l = c.loop-k in
    let last = put-next c.args.params l.k (omega arith) c.wrapping_add_u8-id.ensures.value c.get-v.ensures c.entry_size-at.ensures l.out l.at c.put_entry.ensures in
    rw (left-none c.args.params (l.k + 1) (omega arith)) at (sym last ∙ l.invariant.1)
