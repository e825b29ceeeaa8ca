use Rattle.std.proofs.Common.{◌-◌, length}
use Rattle.std.specs.Io.KnownBytes.{Appends}
use Rattle.replay_io.proofs.Laws.{Going}
use Rattle.replay_io.proofs.feed_piece.Given as goal

abbrev pub invariant-loop-at : goal.invariant-loop-at
invariant-loop-at g l = Going (Appends (g.W.Write.contents l.initial.sink) (g.W.Write.contents l.sink)) l.initial.state l.initial.cells l.piece l.initial.handed l.initial.out l.at l.state l.cells l.handed l.out

abbrev pub decreases-loop-at : goal.decreases-loop-at
decreases-loop-at g l = length l.piece - l.at
