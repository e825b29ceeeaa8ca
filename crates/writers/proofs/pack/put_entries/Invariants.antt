use Rattle.std.proofs.Common.{◌≡◌, ◌*◌, ◌≤◌}
use lib.Seq.{sets}
use Rattle.writers.specs.Pack.{parameter_bytes}
use Rattle.writers.proofs.Laws.Pack.{left}
use Rattle.writers.proofs.pack.put_entries.Given as goal

abbrev pub invariant-loop-k : goal.invariant-loop-k
invariant-loop-k l = (l.at ≤ 7 * l.k) × (sets l.out l.at (left l.params l.k) ≡ sets l.initial.out 0 (parameter_bytes l.params))
