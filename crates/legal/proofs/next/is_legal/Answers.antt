use Rattle.legal.proofs.Laws.Next.{legal-test}
use Rattle.legal.proofs.next.is_legal.Goals as goal

pub returns : goal.returns
returns c = legal-test _ _ c.is_illegal.ensures
