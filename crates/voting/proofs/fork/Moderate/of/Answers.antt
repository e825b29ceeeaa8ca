use Rattle.std.proofs.Common.{arith}
use Rattle.voting.specs.Settings.{settings_large}
use Rattle.voting.proofs.fork.Moderate.of.Goals as goal

pub invariant_of-result : goal.invariant_of-result
unfolding settings_large
invariant_of-result c = grind arith
