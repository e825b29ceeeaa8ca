use Rattle.legal.proofs.Laws.Next.{position-votes, position-none}
use Rattle.legal.proofs.listing.position_of.Goals as goal

pub returns-in-Some : goal.returns-in-Some
returns-in-Some c = position-votes _ _ _ c.in-Some.is c.number_of.ensures.0

pub returns-in-None : goal.returns-in-None
returns-in-None c = position-none _ c.in-None.is
