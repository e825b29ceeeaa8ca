use native.Mathlib.Omega.{arith}
use Rattle.archive.proofs.Laws.Record.{sized-malformed, sized-short, sized-ends}
use Rattle.archive.proofs.record.sized_at.Goals as goal

pub returns-then-n-least : goal.returns-then-n-least
returns-then-n-least c = sized-malformed _ _ _ _ _ c.if-n-least.true

pub returns-then-room-n : goal.returns-then-room-n
returns-then-room-n c = sized-short _ _ _ _ _ c.if-n-least.false (omega (arith, c.if-room-n.true, c.requires)) _ (omega (arith, c.if-room-n.true, c.requires))

pub returns : goal.returns
returns c = sized-ends _ _ _ _ _ c.if-n-least.false (omega (arith, c.if-room-n.false, c.requires))
