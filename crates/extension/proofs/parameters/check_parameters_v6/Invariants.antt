use Rattle.extension.specs.Parameters.{first_differing, table_ids}
use lib.ListN.{drop}
use mathlib.Core.Path.{◌≡◌}
use Rattle.extension.proofs.parameters.check_parameters_v6.Given as goal

abbrev pub invariant-loop-id : goal.invariant-loop-id
invariant-loop-id l = first_differing l.expected l.parsed (drop l.id-index table_ids) ≡ first_differing l.expected l.parsed table_ids
