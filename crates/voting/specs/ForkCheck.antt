-- The fork check of a header. docs/RULES.md, "Fork check".
-- Assumes nothing.
use Rattle.std.specs.Prelude.{Err, ℕ, ◌+◌, ◌*◌, Bool, true, false, cond, not, ◌&&◌, ◌||◌, List, ℤ, pos, ◌+ℤ◌, int_le, int_lt, None, Some}
use Rattle.codec.specs.declared.refusal.Refusal.TheVariants.{ForkVoteBarred, SettingLarge, VotesCollectedAbsent}
use Rattle.voting.specs.declared.settings.VotingConfig.{VotingConfig}
use Rattle.voting.specs.Value.{Value}
use Rattle.voting.specs.declared.table.Table.{Table}
use Rattle.codec.specs.Check.{Check, passed}
use Rattle.voting.specs.Settings.{voting_length, vote_epochs, activation_epochs, soft_fork_approved, settings_large}
use Rattle.voting.specs.Table.{id_starting_height, id_votes_collected, lookup}
use Rattle.voting.specs.Header.{soft_fork_vote, votes_for}

-- S + L×k, the boundary k epochs after S
unfoldable pub epochs_after : VotingConfig → ℤ → ℕ → ℤ
epochs_after g start k = start +ℤ pos (voting_length g * k)

-- the height is at or above the boundary j epochs after S, and below that of k epochs
unfoldable pub between : VotingConfig → ℤ → ℕ → ℕ → ℕ → Bool
between g start height j k = int_le (epochs_after g start j) (pos height) && int_lt (pos height) (epochs_after g start k)

-- barred: in the epoch after the voting if the votes are not approved, and if they are, in that one and the activation epochs
unfoldable pub barred : VotingConfig → ℕ → ℤ → ℤ → Bool
barred g height start votes =
    (between g start height (vote_epochs g) (vote_epochs g + 1) && not (soft_fork_approved g votes))
    || (between g start height (vote_epochs g) (vote_epochs g + activation_epochs g + 1) && soft_fork_approved g votes)

-- with 122 and 121: allowed without 122, and 19 without 121; a vote that is barred is 12
unfoldable pub check_round : VotingConfig → ℕ → Value → Value → Check
check_round g height None votes = passed
check_round g height (Some start) None = Err VotesCollectedAbsent
check_round g height (Some start) (Some votes) = cond (barred g height start votes) (Err ForkVoteBarred) passed

unfoldable pub check_fork_vote : VotingConfig → ℕ → List ℕ → Table → Check
check_fork_vote g height votes t =
    cond (settings_large g) (Err SettingLarge)
    (cond (votes_for soft_fork_vote votes) (check_round g height (lookup t id_starting_height) (lookup t id_votes_collected)) passed)

-- every header below this height is allowed, since no round is open there or its votes are still collected
unfoldable pub round_open : VotingConfig → ℕ → Value → Value → Bool
round_open g end None votes = true
round_open g end (Some start) None = false
round_open g end (Some start) (Some votes) = int_le (pos end) (epochs_after g start (vote_epochs g))

unfoldable pub votes_open : VotingConfig → ℕ → Table → Bool
votes_open g end t = not (settings_large g) && round_open g end (lookup t id_starting_height) (lookup t id_votes_collected)
