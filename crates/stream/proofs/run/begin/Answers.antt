use Rattle.std.proofs.Common.{refl}
use Rattle.stream.proofs.Laws.Driven.{begins}
use Rattle.stream.proofs.run.begin.Goals as goal

pub returns : goal.returns
returns c = record {
  value = refl;
  begins = begins _;
}
