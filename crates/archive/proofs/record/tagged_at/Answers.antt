use mathlib.Core.Path.{◌∙◌}
use native.Mathlib.Omega.{arith}
use Rattle.archive.proofs.Laws.Record.{tagged-none, tagged-malformed, tagged-cut, tagged-sized}
use Rattle.archive.proofs.record.tagged_at.Goals as goal

pub returns-then-room-eq0 : goal.returns-then-room-eq0
returns-then-room-eq0 c = tagged-none _ _ _ _ _ (omega (arith, c.if-room-eq0.true, c.requires))

pub returns-then-bytes-at : goal.returns-then-bytes-at
returns-then-bytes-at c = tagged-malformed _ _ _ _ _ (omega (arith, c.if-room-eq0.false, c.requires)) c.if-bytes-at.true

pub returns-then-room-lt3 : goal.returns-then-room-lt3
returns-then-room-lt3 c = tagged-cut _ _ _ _ _ (omega (arith, c.if-room-eq0.false, c.requires)) c.if-bytes-at.false (omega (arith, c.if-room-lt3.true, c.requires)) _ (omega (arith, c.if-room-lt3.true, c.requires))

pub returns : goal.returns
returns c = c.sized_at.ensures
    ∙ tagged-sized _ _ _ _ _ (omega (arith, c.if-room-eq0.false, c.requires)) c.if-bytes-at.false (omega (arith, c.if-room-lt3.false, c.requires)) _ c.length_of.ensures
