-- What a boundary is asked beside the tally and the update, and what it computed, in bytes. docs/VECTORS.md, "Bytes".
-- Assumes nothing.
use Rattle.std.specs.Prelude.{ℕ, not, List, ◌++◌, eqb, get_or}
use Rattle.extension.specs.declared.boundary.Computed.{Computed}
use Rattle.lent.specs.declared.boundary.BoundaryAt.{BoundaryAt}
use Rattle.wire.specs.Numbers.{number_at}
use Rattle.wire.specs.Values.{table_at, table_bytes, settings_at}
use Rattle.wire.specs.Places.{update_bytes}

-- a question: 81 bytes, settings (16), height (4), table (60), and a byte that is not 0 if the boundary votes for the fork
unfoldable pub question_of : List ℕ → BoundaryAt
question_of q = record { config = settings_at q 0; height = number_at q 16; table = table_at q 20; vote = not (eqb (get_or q 80 0) 0) }

-- what was computed: 84 bytes, the table and the activated update
unfoldable pub computed_bytes : Computed → List ℕ
computed_bytes c = table_bytes c.table ++ update_bytes c.activated
