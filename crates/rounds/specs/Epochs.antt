-- The epochs of a replay as the rounds see them: who votes 120, what is counted, the last one, and the forced version. docs/RULES.md, "Replay".
-- Assumes nothing.
use Rattle.std.specs.Prelude.{ℕ, Bool, cond, ◌&&◌, List, [], ◌∷◌, eqb}
use Rattle.voting.specs.declared.settings.VotingConfig.{VotingConfig}
use Rattle.voting.specs.Settings.{version2_height}
use Rattle.voting.specs.Header.{soft_fork_vote}
use Rattle.voting.specs.Tally.{headers, first_votes, counted_for}

-- the boundary header of an epoch, by its vote bytes, votes 120
unfoldable pub boundary_votes : List ℕ → Bool
boundary_votes bytes = first_votes soft_fork_vote (headers bytes)

-- the votes 120 that are counted in an epoch
unfoldable pub counted : List ℕ → ℕ
counted bytes = counted_for soft_fork_vote bytes

-- the last of these epochs, or the one before them
unfoldable pub last_of : List ℕ → List (List ℕ) → List ℕ
last_of before [] = before
last_of before (e ∷ es) = last_of e es

-- at the version-2 height a version 1 becomes 2
unfoldable pub forced_version : VotingConfig → ℕ → ℕ → ℕ
forced_version g h v = cond (eqb h (version2_height g) && eqb v 1) 2 v
