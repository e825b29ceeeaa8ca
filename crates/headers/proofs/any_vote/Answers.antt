use lib.Dec.{eqb}
use Rattle.counting.proofs.Laws.Count.{count_less}
use Rattle.headers.proofs.any_vote.Goals as goal

pub returns : goal.returns
returns c = rw c.times_in.ensures (count_less (eqb 0) c.args.votes.now)
