use Rattle.std.proofs.Common.{◌≡◌}
use lib.Seq.{sets}
use Rattle.codec.specs.Vlq.{vlq_bytes}
use Rattle.codec.proofs.vlq.put.Given as goal

abbrev pub invariant-loop-i : goal.invariant-loop-i
invariant-loop-i l = sets l.out l.i (vlq_bytes l.v) ≡ sets l.initial.out l.at (vlq_bytes l.x)
