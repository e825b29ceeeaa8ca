use mathlib.Core.Path.{◌≡◌}
use lib.ListN.{drop}
use Rattle.extension.specs.Parameters.{table_ids}
use Rattle.walk.specs.Walk.{first_unlike}
use Rattle.walk.proofs.match_found.Given as goal

abbrev pub invariant-loop-k : goal.invariant-loop-k
invariant-loop-k l = first_unlike l.expected l.found (drop l.k table_ids) ≡ first_unlike l.expected l.found table_ids
