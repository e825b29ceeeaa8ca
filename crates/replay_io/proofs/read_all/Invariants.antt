use Rattle.std.proofs.Common.{◌≡◌, ◌-◌, ◌≤◌, length}
use Rattle.std.specs.Io.KnownBytes.{Consumes}
use Rattle.stream.specs.Lines.{head_line, line_most}
use Rattle.replay_io.specs.Replays.{GoesOn, Reading}
use Rattle.replay_io.proofs.read_all.Given as goal

abbrev pub invariant-loop : goal.invariant-loop
invariant-loop g l = Reading (Consumes (g.R.Read.remaining l.initial.source) (g.R.Read.remaining l.source)) (GoesOn head_line (g.W.Write.contents l.initial.sink) (g.W.Write.contents l.sink)) l.from l.to (18446744073709551615 - l.counter) l.state l.cells l.got l.handed × (line_most ≤ length l.out) × (length l.cells ≡ length l.initial.cells) × (length l.buf ≡ length l.initial.buf) × (length l.out ≡ length l.initial.out)
