-- What a replay asks of a body, and the match of a computed table with what was found. docs/RULES.md, "Extension body and match".
-- Assumes nothing.
use Rattle.std.specs.Prelude.{Result, ⊤, ℕ, ◌≡◌, cond, List, [], ◌∷◌}
use Rattle.voting.specs.Table.{lookup, fork_entries}
use Rattle.voting.specs.declared.table.Table.{Table}
use Rattle.extension.specs.declared.parameters.ParameterMap.{ParameterMap}
use Rattle.extension.specs.declared.parameters.Mismatch.{Mismatch}
use Rattle.std.specs.Result.{result_unwrap_or}
use Rattle.extension.specs.Section.{PartIs}
use Rattle.extension.specs.Body.{proposed_update, check_body}
use Rattle.extension.specs.Parameters.{entry_of, parameters_of, agrees, table_ids, matched, no_parameters}
use Rattle.walk.specs.declared.Walked.{Walked}

-- the entries of a table, read off parameters
unfoldable pub table_in : ParameterMap → Table
table_in m =
    record {
      ordinary = entry_of m 1 ∷ entry_of m 2 ∷ entry_of m 3 ∷ entry_of m 4 ∷ entry_of m 5 ∷ entry_of m 6 ∷ entry_of m 7 ∷ entry_of m 8 ∷ entry_of m 9 ∷ [];
      fork = fork_entries (entry_of m 121) (entry_of m 122) (entry_of m 123);
    }

-- the check of a body, its proposed update, and its parameters, on every body; a refused one has no parameters
pub record WalkedIs (body : List ℕ) (w : Walked) : Type 0 where
  pub fields : w.fields ≡ check_body body
  pub update : PartIs body w.start w.end (proposed_update body)
  pub found : w.found ≡ table_in (result_unwrap_or (parameters_of body) no_parameters)

-- the first id, in rising order, whose entry in the computed table is missing or different in the other; 0 where there is none
unfoldable pub first_unlike : Table → Table → List ℕ → ℕ
first_unlike expected found [] = 0
first_unlike expected found (id ∷ ids) = cond (agrees (lookup expected id) (lookup found id)) (first_unlike expected found ids) id

unfoldable pub match_found : Table → Table → Result ⊤ Mismatch
match_found expected found = matched (first_unlike expected found table_ids)
