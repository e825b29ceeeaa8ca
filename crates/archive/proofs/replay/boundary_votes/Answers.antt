use Rattle.archive.proofs.Laws.Replay.{votes-few, votes-one}
use Rattle.archive.proofs.replay.boundary_votes.Goals as goal

pub returns-then-votes-lt3 : goal.returns-then-votes-lt3
returns-then-votes-lt3 c = votes-few _ c.if-votes-lt3.true

pub returns : goal.returns
returns c = votes-one _ c.if-votes-lt3.false _ c.votes_for.ensures
