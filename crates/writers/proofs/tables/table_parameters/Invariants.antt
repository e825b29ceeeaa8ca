use Rattle.std.proofs.Common.{◌≡◌, drop}
use Rattle.extension.specs.Parameters.{table_ids}
use Rattle.writers.specs.Tables.{entries_in, table_parameters}
use Rattle.writers.proofs.tables.table_parameters.Given as goal

abbrev pub invariant-loop-id : goal.invariant-loop-id
invariant-loop-id l = entries_in l.table (drop l.id-index table_ids) l.m ≡ table_parameters l.table
