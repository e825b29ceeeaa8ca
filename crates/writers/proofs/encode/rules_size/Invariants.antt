use Rattle.std.proofs.Common.{◌≡◌, ◌+◌, ◌*◌, ◌≤◌, length, drop}
use Rattle.extension.specs.Encode.{rules_bytes}
use Rattle.writers.proofs.encode.rules_size.Given as goal

abbrev pub invariant-loop-rule : goal.invariant-loop-rule
invariant-loop-rule l = (l.n ≤ 10 * l.rule-index) × (l.n + length (rules_bytes (drop l.rule-index l.rules)) ≡ length (rules_bytes l.rules))
