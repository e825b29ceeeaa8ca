use Rattle.std.proofs.Common.{◌≡◌, ◌+◌, ◌-◌, suc, length}
use Rattle.codec.specs.Vlq.{shortest_of, vlq_bytes}
use Rattle.codec.proofs.vlq.size.Given as goal

abbrev pub invariant-loop-n : goal.invariant-loop-n
invariant-loop-n l = l.n + length (shortest_of (11 - l.n) l.v) ≡ suc (length (vlq_bytes l.x))
