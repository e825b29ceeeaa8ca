use Rattle.archive.proofs.Laws.Replay.{boundary-few, boundary-one}
use Rattle.archive.proofs.replay.check_boundary.Goals as goal

pub returns-then-votes-lt3 : goal.returns-then-votes-lt3
returns-then-votes-lt3 c = boundary-few _ _ _ c.args.votes.now c.if-votes-lt3.true

pub returns : goal.returns
returns c = boundary-one _ _ _ c.args.votes.now c.if-votes-lt3.false c.check_fork_vote.ensures
