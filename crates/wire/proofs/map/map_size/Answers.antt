use Prim.Native.Nat.{◌+◌}
use mathlib.Core.Path.{sym, ◌∙◌}
use native.Mathlib.Nat.{zero-add}
use native.Mathlib.Omega.{arith}
use borrow.Author.Rules.{rules}
use Rattle.wire.specs.Map.{map_bytes}
use Rattle.wire.proofs.MapLaws.{present-most, size_none, size-one}
use Rattle.wire.proofs.map.map_size.Goals as goal

pub loop-id-init : goal.loop-id-init
unfolding map_bytes
loop-id-init c = (search rules, zero-add _)

pub overflow_add-n : goal.overflow_add-n
overflow_add-n c = let l = c.loop-id in
    let r = present-most l.id c.get-v.result in
    omega (arith, l.invariant.0, c.present_size-n.ensures, r, c.loop-id-test.true)

pub loop-id-preserved : goal.loop-id-preserved
loop-id-preserved c = let l = c.loop-id in
    let r = present-most l.id c.get-v.result in (
      omega (arith, l.invariant.0, c.present_size-n.ensures, r),
      size-one _ _ (omega arith) c.get-v.ensures c.present_size-n.ensures _ ∙ l.invariant.1,
    )

pub returns-2 : goal.returns-2
returns-2 c = let l = c.loop-id in
    sym (size_none c.args.m (l.id + 1) (omega arith) _) ∙ size-one _ _ (omega arith) c.get-v.ensures c.present_size-n.ensures _ ∙ l.invariant.1
