use Prim.Native.Nat.{◌+◌}
use mathlib.Core.Path.{refl, sym, ◌∙◌}
use native.Mathlib.Omega.{arith}
use borrow.Author.Rules.{rules}
use Rattle.wire.specs.Map.{map_bytes}
use Rattle.wire.proofs.MapLaws.{present-most, put-none, put_one}
use Rattle.wire.proofs.map.put_map.Goals as goal

pub loop-id-init : goal.loop-id-init
unfolding map_bytes
loop-id-init c = (search rules, refl)

pub overflow_add-at : goal.overflow_add-at
overflow_add-at c = let l = c.loop-id in
    let r = present-most l.id c.get-v.result in
    omega (arith, l.invariant.0, c.present_size-at.ensures, r, c.loop-id-test.true)

pub loop-id-preserved : goal.loop-id-preserved
loop-id-preserved c = let l = c.loop-id in
    let r = present-most l.id c.get-v.result in (
      omega (arith, l.invariant.0, c.present_size-at.ensures, r),
      put_one _ _ (omega arith) c.get-v.ensures c.present_size-at.ensures _ _ c.put_present.ensures ∙ l.invariant.1,
    )

pub returns-2 : goal.returns-2
returns-2 c = let l = c.loop-id in
    sym (put-none c.args.m (l.id + 1) (omega arith) _ _) ∙ put_one _ _ (omega arith) c.get-v.ensures c.present_size-at.ensures _ _ c.put_present.ensures ∙ l.invariant.1
