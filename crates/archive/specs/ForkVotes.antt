-- The fork check of an epoch's headers, one after another. docs/RULES.md, "Replay".
-- Assumes nothing.
use Rattle.std.specs.Prelude.{ℕ, ◌+◌, List, [], ◌∷◌}
use Rattle.voting.specs.declared.settings.VotingConfig.{VotingConfig}
use Rattle.voting.specs.declared.table.Table.{Table}
use Rattle.std.specs.Result.{result_and}
use Rattle.codec.specs.Check.{Check, passed}
use Rattle.voting.specs.Tally.{headers}
use Rattle.voting.specs.ForkCheck.{check_fork_vote}

-- the fork check of each in order, at rising heights, the first refusal
unfoldable pub check_each_vote : VotingConfig → Table → ℕ → List (List ℕ) → Check
check_each_vote g t height [] = passed
check_each_vote g t height (h ∷ hs) = result_and (check_fork_vote g height h t) (check_each_vote g t (height + 1) hs)

unfoldable pub check_fork_votes : VotingConfig → Table → ℕ → List ℕ → Check
check_fork_votes g t height votes = check_each_vote g t height (headers votes)
