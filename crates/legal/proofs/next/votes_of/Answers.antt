use Rattle.legal.proofs.Laws.Next.{votes-none, votes-some}
use Rattle.legal.proofs.next.votes_of.Goals as goal

pub returns-then-n-ge-TOTAL : goal.returns-then-n-ge-TOTAL
returns-then-n-ge-TOTAL c = votes-none _ c.if-n-ge-TOTAL.true

pub returns : goal.returns
returns c = votes-some _ c.if-n-ge-TOTAL.false
