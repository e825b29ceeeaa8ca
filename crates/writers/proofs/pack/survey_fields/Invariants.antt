use Rattle.std.proofs.Common.{◌≡◌, ◌-◌, ◌≤◌, length}
use Rattle.extension.specs.Pack.{wire_fields}
use Rattle.writers.specs.Survey.{surveyed}
use Rattle.writers.proofs.Laws.Pack.{walk}
use Rattle.writers.proofs.pack.survey_fields.Given as goal

abbrev pub invariant-loop-at : goal.invariant-loop-at
invariant-loop-at l = (l.count ≤ l.at) × (l.at ≤ length l.fields) × (walk l.fields l.at l.count l.long ≡ surveyed (wire_fields l.fields))

abbrev pub decreases-loop-at : goal.decreases-loop-at
decreases-loop-at l = length l.fields - l.at
