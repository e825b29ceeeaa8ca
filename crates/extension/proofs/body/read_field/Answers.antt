use native.Mathlib.Omega.{arith}
use Rattle.extension.proofs.Laws.Body.{field_cut, field-long, field-over, field-here}
use Rattle.extension.proofs.body.read_field.Goals as goal

pub returns-then-body-at : goal.returns-then-body-at
returns-then-body-at c = field_cut _ _ (omega (arith, c.if-body-at.true))

pub returns-then-room-lt3 : goal.returns-then-room-lt3
returns-then-room-lt3 c = field_cut _ _ (omega (arith, c.if-room-lt3.true, c.if-body-at.false))

pub returns-then-n-gt-VALUE_MOST : goal.returns-then-n-gt-VALUE_MOST
returns-then-n-gt-VALUE_MOST c = field-long _ _ (omega (arith, c.if-room-lt3.false, c.if-body-at.false)) c.if-n-gt-VALUE_MOST.true

pub returns-then-room-n : goal.returns-then-room-n
returns-then-room-n c = field-over _ _ (omega (arith, c.if-room-lt3.false, c.if-body-at.false)) c.if-n-gt-VALUE_MOST.false (omega (arith, c.if-room-n.true, c.if-room-lt3.false, c.if-body-at.false))

pub returns : goal.returns
returns c = field-here _ _ (omega (arith, c.if-room-lt3.false, c.if-body-at.false)) c.if-n-gt-VALUE_MOST.false (omega (arith, c.if-room-n.false, c.if-room-lt3.false, c.if-body-at.false))
