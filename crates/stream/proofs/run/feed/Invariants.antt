use Rattle.std.proofs.Common.{◌-◌}
use Rattle.stream.proofs.Laws.Feed.{Going}
use Rattle.stream.proofs.run.feed.Given as goal

abbrev pub invariant-loop : goal.invariant-loop
invariant-loop l = Going l.initial.state l.initial.cells l.piece l.initial.out (l.end - l.counter) l.at l.wrote l.state l.cells l.out
