use Rattle.voting.proofs.Laws.Clash.{illegal-by}
use Rattle.std.proofs.Common.{rules}
use Rattle.voting.proofs.header.is_illegal.Goals as goal

pub returns : goal.returns
returns c = let a = c.args in
    illegal-by a.a a.b a.c (search rules) (search rules) (search rules)
    c.clashes.ensures c.clashes-2.ensures c.clashes-3.ensures c.is_ordinary.ensures c.is_ordinary-2.ensures c.is_ordinary-3.ensures
