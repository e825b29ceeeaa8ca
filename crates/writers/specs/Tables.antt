-- A computed table as parameters, and the match of the two. docs/RULES.md, "Extension body and match".
-- Assumes nothing.
use Rattle.std.specs.Prelude.{IsOk, ◌≡◌, ℕ, ◌≤◌, List, [], ◌∷◌}
use Rattle.voting.specs.Table.{lookup}
use Rattle.voting.specs.declared.table.Table.{Table}
use Rattle.extension.specs.declared.parameters.ParameterMap.{ParameterMap}
use Rattle.extension.specs.Parameters.{no_parameters, entry_of, store, table_ids, check_parameters}

-- the table's entries of these ids, each stored under its id
unfoldable pub entries_in : Table → List ℕ → ParameterMap → ParameterMap
entries_in t [] m = m
entries_in t (id ∷ ids) m = entries_in t ids (store m id (lookup t id))

unfoldable pub table_parameters : Table → ParameterMap
table_parameters t = entries_in t table_ids no_parameters

-- under each id byte stands the table's entry, and the table matches the parameters
pub record TableCarried (t : Table) (m : ParameterMap) : Type 0 where
  pub same : (id : ℕ) → id ≤ 255 → entry_of m id ≡ lookup t id
  pub matches : IsOk (check_parameters t m)
