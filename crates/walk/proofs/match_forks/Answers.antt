use Rattle.walk.proofs.Laws.Match.{unlike-votes, unlike-start, unlike-version, unlike-none}
use Rattle.walk.proofs.match_forks.Goals as goal

pub returns-then-differs : goal.returns-then-differs
returns-then-differs c = unlike-votes _ _ _ c.differs.ensures c.if-differs.true

pub returns-then-differs-2 : goal.returns-then-differs-2
returns-then-differs-2 c = unlike-start _ _ _ c.differs.ensures c.if-differs.false _ c.differs-2.ensures c.if-differs-2.true

pub returns-then-differs-3 : goal.returns-then-differs-3
returns-then-differs-3 c = unlike-version _ _ _ c.differs.ensures c.if-differs.false _ c.differs-2.ensures c.if-differs-2.false _ c.differs-3.ensures c.if-differs-3.true

pub returns : goal.returns
returns c = unlike-none _ _ _ c.differs.ensures c.if-differs.false _ c.differs-2.ensures c.if-differs-2.false _ c.differs-3.ensures c.if-differs-3.false
