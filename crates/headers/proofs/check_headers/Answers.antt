use Rattle.counting.proofs.Laws.Count.{count_none}
use Rattle.headers.proofs.Laws.Headers.{quiet-headers}
use Rattle.headers.specs.Headers.{check_headers}
use Rattle.headers.proofs.check_headers.Goals as goal
use Rattle.headers.proofs.check_headers.Goals.{else-any_vote-via-then-any_vote+else-any_illegal, else-any_vote-via-else-any_vote}

pub returns : goal.returns
unfolding check_headers
returns c = elim c.else-any_vote.branch [
  | else-any_vote-via-then-any_vote+else-any_illegal w ↦ w.any_illegal.ensures w.if-any_illegal.false
  | else-any_vote-via-else-any_vote w ↦ quiet-headers _ (count_none _ _ c.any_vote.ensures w.if-any_vote.false)
]
