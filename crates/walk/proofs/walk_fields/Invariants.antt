use Rattle.walk.proofs.Laws.Walk.{Walking}
use Rattle.walk.proofs.walk_fields.Given as goal

abbrev pub invariant-loop : goal.invariant-loop
invariant-loop l = Walking l.body l.count l.begin l.counter l.at l.wrong l.seen l.start l.end l.found
