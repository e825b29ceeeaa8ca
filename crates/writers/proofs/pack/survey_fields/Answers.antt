use Rattle.std.proofs.Common.{sym, ◌∙◌, rules}
use Rattle.writers.proofs.Laws.Pack.{walk-start, walk_end, walk-header-cut, walk-value-cut, walk_field}
use Rattle.writers.proofs.pack.survey_fields.Goals as goal

pub loop-at-init : goal.loop-at-init
loop-at-init c = (search rules, search rules, walk-start _)

pub returns-then-room-lt3 : goal.returns-then-room-lt3
returns-then-room-lt3 c = let i = c.loop-at.invariant in
    sym (walk-header-cut _ _ _ _ i.0 c.loop-at-test.true c.if-room-lt3.true) ∙ i.2

pub returns-then-room-n : goal.returns-then-room-n
returns-then-room-n c = let i = c.loop-at.invariant in
    sym (walk-value-cut _ _ _ _ i.0 c.loop-at-test.true c.if-room-lt3.false c.if-room-n.true) ∙ i.2

pub loop-at-preserved : goal.loop-at-preserved
loop-at-preserved c = let i = c.loop-at.invariant in
    (search rules, search rules, sym (walk_field _ _ _ _ i.0 c.loop-at-test.true c.if-room-lt3.false c.if-room-n.false) ∙ i.2)

pub returns : goal.returns
returns c = let i = c.loop-at.invariant in sym (walk_end _ _ _ _ c.loop-at-test.false) ∙ i.2
