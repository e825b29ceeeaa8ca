use native.Mathlib.Omega.{arith}
use Rattle.extension.proofs.Laws.Body.{field-inside}
use Rattle.walk.proofs.Laws.Walk.{met, refused-is, walk-update, walk-on, walk-cut, walk-wrong, walk-right}
use Rattle.walk.proofs.walk_fields.Goals.{then-seen-update_key, else-seen-update_key}
use Rattle.walk.proofs.walk_fields.Goals as goal

pub returns-in-Err : goal.returns-in-Err
returns-in-Err c = let e = met _ _ c.requires.0 _ _ c.field_at.ensures c.in-Err.is in
    refused-is _ _ (walk-cut _ _ _ _ _ _ _ _ _ _ c.loop.invariant c.requires.1 c.loop-test.true _ e) _ c.refused.ensures

pub overflow_sub-f : goal.overflow_sub-f
overflow_sub-f c = let e = met _ _ c.requires.0 _ _ c.field_at.ensures c.in-Ok.is in
    omega (arith, (field-inside _ _ _ e).size_is)

pub slice_bounds-slot_in-count : goal.slice_bounds-slot_in-count
slice_bounds-slot_in-count c = let e = met _ _ c.requires.0 _ _ c.field_at.ensures c.in-Ok.is in
    omega (arith, (field-inside _ _ _ e).size_is)

pub slice_bounds-slot_in-start : goal.slice_bounds-slot_in-start
slice_bounds-slot_in-start c = let e = met _ _ c.requires.0 _ _ c.field_at.ensures c.in-Ok.is in
    omega (arith, (field-inside _ _ _ e).size_is)

pub slice_bounds-slot_in-end : goal.slice_bounds-slot_in-end
slice_bounds-slot_in-end c = let e = met _ _ c.requires.0 _ _ c.field_at.ensures c.in-Ok.is in
    omega (arith, (field-inside _ _ _ e).end-inside)

pub loop-preserved : goal.loop-preserved
loop-preserved c = let e = met _ _ c.requires.0 _ _ c.field_at.ensures c.in-Ok.is in
    elim c.if-seen-update_key.branch [
      | then-seen-update_key w ↦
          rw (w.seen-is, w.start-is, w.end-is)
          (walk-update _ _ _ _ _ _ _ _ _ _ c.loop.invariant c.loop-test.true _ e _ c.wrong_size-wrong.ensures _ c.place_of.ensures.0 _ c.slot_in.ensures _ c.update_key.ensures w.if-seen-update_key.true)
      | else-seen-update_key w ↦
          rw (w.seen-is, w.start-is, w.end-is)
          (walk-on _ _ _ _ _ _ _ _ _ _ c.loop.invariant c.loop-test.true _ e _ c.wrong_size-wrong.ensures _ c.place_of.ensures.0 _ c.slot_in.ensures _ c.update_key.ensures w.if-seen-update_key.false)
    ]

pub returns-then-wrong : goal.returns-then-wrong
returns-then-wrong c = walk-wrong _ _ _ _ _ _ _ _ _ _ c.loop.invariant c.requires.1 c.loop-test.false c.if-wrong.true _ c.no_entries.ensures

pub returns : goal.returns
returns c = walk-right _ _ _ _ _ _ _ _ _ _ c.loop.invariant c.requires.1 c.loop-test.false c.if-wrong.false _ c.table_of.ensures
