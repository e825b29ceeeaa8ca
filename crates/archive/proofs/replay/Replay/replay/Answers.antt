use mathlib.Core.Path.{◌∙◌}
use Rattle.archive.proofs.Laws.RecordTrip.{parts-inside}
use Rattle.archive.proofs.Laws.Least.{promised}
use Rattle.archive.proofs.Laws.Replay.{record-more, record-whole, record-unread}
use Rattle.archive.proofs.replay.Replay.replay.Goals as goal

pub slice_bounds-on_parts-count : goal.slice_bounds-on_parts-count
slice_bounds-on_parts-count c = (parts-inside _ _ _ c.in-Ok.ensures.value).body-ordered

pub slice_bounds-on_parts-start : goal.slice_bounds-on_parts-start
slice_bounds-on_parts-start c = (parts-inside _ _ _ c.in-Ok.ensures.value).body-ordered

pub slice_bounds-on_parts-end : goal.slice_bounds-on_parts-end
slice_bounds-on_parts-end c = (parts-inside _ _ _ c.in-Ok.ensures.value).body-in

pub slice_bounds-on_parts-count-in-Ok : goal.slice_bounds-on_parts-count-in-Ok
slice_bounds-on_parts-count-in-Ok c = (parts-inside _ _ _ c.in-Ok.ensures.value).votes-ordered

pub slice_bounds-on_parts-start-in-Ok : goal.slice_bounds-on_parts-start-in-Ok
slice_bounds-on_parts-start-in-Ok c = (parts-inside _ _ _ c.in-Ok.ensures.value).votes-ordered

pub returns-in-Ok : goal.returns-in-Ok
returns-in-Ok c = let p = promised _ _ _ (c.on_parts.ensures ∙ record-whole _ _ _ c.in-Ok.ensures.value c.if-p-rec.true) in
    record { value = p.0; exhausted = p.1.0; least = p.1.1 }

pub returns-in_default : goal.returns-in_default
returns-in_default c = let p = promised _ _ _ (record-more _ _ _ c.in-Ok.ensures.value c.if-p-rec.false) in
    record { value = p.0; exhausted = p.1.0; least = p.1.1 }

pub returns-in_default-2 : goal.returns-in_default-2
returns-in_default-2 c = let p = promised _ _ _ (record-unread _ _ c.in_default.ensures.value) in
    record { value = p.0; exhausted = p.1.0; least = p.1.1 }
