use Rattle.std.proofs.Common.{◌≡◌, drop}
use lib.Seq.{sets}
use Rattle.codec.proofs.output.put_bytes.Given as goal

abbrev pub invariant-loop-b : goal.invariant-loop-b
invariant-loop-b l = sets l.out l.k (drop l.b-index l.bytes) ≡ sets l.initial.out l.at l.bytes
