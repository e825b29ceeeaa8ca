use Rattle.archive.proofs.Laws.Replay.{height-right, height-wrong}
use Rattle.archive.proofs.replay.check_height.Goals as goal

pub returns-then-height-s : goal.returns-then-height-s
returns-then-height-s c = height-right _ _ c.if-height-s.true

pub returns : goal.returns
returns c = height-wrong _ _ c.if-height-s.false
