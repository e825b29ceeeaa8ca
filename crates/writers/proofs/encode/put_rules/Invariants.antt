use Rattle.std.proofs.Common.{◌≡◌, drop}
use lib.Seq.{sets}
use Rattle.extension.specs.Encode.{rules_bytes}
use Rattle.writers.proofs.encode.put_rules.Given as goal

abbrev pub invariant-loop-rule : goal.invariant-loop-rule
invariant-loop-rule l = sets l.out l.k (rules_bytes (drop l.rule-index l.rules)) ≡ sets l.initial.out l.at (rules_bytes l.rules)
