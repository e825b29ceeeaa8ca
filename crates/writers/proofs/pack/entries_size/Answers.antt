use Rattle.std.proofs.Common.{◌+◌, length, sym, ap, ◌∙◌, zero-add, arith, rules}
use Rattle.writers.specs.Pack.{parameter_bytes}
use Rattle.writers.proofs.Laws.Pack.{entry-most, left-none, size-next}
use Rattle.writers.proofs.pack.entries_size.Goals as goal

pub loop-k-init : goal.loop-k-init
unfolding parameter_bytes
loop-k-init c = (search rules, zero-add _)

pub overflow_add-n : goal.overflow_add-n
overflow_add-n c = omega (arith, c.loop-k.invariant.0, c.entry_size-n.ensures, entry-most c.wrapping_add_u8-id.result c.get.result)

pub loop-k-preserved : goal.loop-k-preserved
loop-k-preserved c = let l = c.loop-k in (
  omega (arith, l.invariant.0, c.entry_size-n.ensures, entry-most c.wrapping_add_u8-id.result c.get.result),
  sym (size-next _ l.k (omega arith) c.wrapping_add_u8-id.ensures.value c.get.ensures c.entry_size-n.ensures l.n) ∙ l.invariant.1,
)

pub returns-2 : goal.returns-2
returns-2 c = let l = c.loop-k in
    let last = size-next c.args.params l.k (omega arith) c.wrapping_add_u8-id.ensures.value c.get.ensures c.entry_size-n.ensures l.n in
    omega (arith, last, l.invariant.1, ap length (left-none c.args.params (l.k + 1) (omega arith)))
