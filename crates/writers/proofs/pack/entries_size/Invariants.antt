use Rattle.std.proofs.Common.{◌≡◌, ◌+◌, ◌*◌, ◌≤◌, length}
use Rattle.writers.specs.Pack.{parameter_bytes}
use Rattle.writers.proofs.Laws.Pack.{left}
use Rattle.writers.proofs.pack.entries_size.Given as goal

abbrev pub invariant-loop-k : goal.invariant-loop-k
invariant-loop-k l = (l.n ≤ 7 * l.k) × (l.n + length (left l.params l.k) ≡ length (parameter_bytes l.params))
