-- The headers of an epoch, one after another. docs/RULES.md, "Replay".
-- Assumes nothing.
use Rattle.std.specs.Prelude.{ℕ, List, [], ◌∷◌}
use Rattle.std.specs.Result.{result_and}
use Rattle.codec.specs.Check.{Check, passed}
use Rattle.voting.specs.Header.{check_header_votes}
use Rattle.voting.specs.Tally.{headers}

-- the header check of each in order, the first refusal
unfoldable pub check_each : List (List ℕ) → Check
check_each [] = passed
check_each (h ∷ hs) = result_and (check_header_votes h) (check_each hs)

unfoldable pub check_headers : List ℕ → Check
check_headers votes = check_each (headers votes)
