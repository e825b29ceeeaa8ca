use Rattle.std.proofs.Common.{ℕ, false, ap}
use Rattle.ports.proofs.reached.Goals as goal

pub returns : goal.returns
returns c = let a = c.args in ap (λ (k : ℕ). record { input = record { descriptor = a.input.descriptor; bytes = k; end = a.input.end }; count = a.n; failed = false }) c.counted-next.ensures
