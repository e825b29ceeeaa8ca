use Rattle.archive.proofs.Laws.Replay.{others-few}
use Rattle.archive.proofs.replay.check_others.Goals as goal

pub returns-then-votes-lt3 : goal.returns-then-votes-lt3
returns-then-votes-lt3 c = others-few _ _ _ c.args.votes.now c.if-votes-lt3.true
