use Rattle.std.proofs.Common.{ℕ, ap}
use Rattle.ports.proofs.handed.Goals as goal

pub returns : goal.returns
returns c = let a = c.args in ap (λ (k : ℕ). record { output = record { descriptor = a.output.descriptor; bytes = k; cut = a.cut }; failed = a.failed }) c.counted-next.ensures
