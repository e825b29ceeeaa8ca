-- The settings of a network, and when a count of votes is approved. docs/RULES.md, "Table and settings".
-- Assumes nothing.
use Rattle.std.specs.Prelude.{ℕ, ◌*◌, ◌/◌, Bool, ◌||◌, ℤ, pos, int_lt, nat_lt}
use Rattle.voting.specs.declared.settings.VotingConfig.{VotingConfig}

-- L, V, A, and the height at which version 1 becomes 2
abbrev pub voting_length : VotingConfig → ℕ
voting_length g = g.voting_length

abbrev pub vote_epochs : VotingConfig → ℕ
vote_epochs g = g.soft_fork_epochs

abbrev pub activation_epochs : VotingConfig → ℕ
activation_epochs g = g.activation_epochs

abbrev pub version2_height : VotingConfig → ℕ
version2_height g = g.version2_activation_height

abbrev pub settings : ℕ → ℕ → ℕ → ℕ → VotingConfig
settings l v a h =
    record { voting_length = l; soft_fork_epochs = v; activation_epochs = a; version2_activation_height = h }

unfoldable pub mainnet : VotingConfig
mainnet = settings 1024 32 32 417792

unfoldable pub testnet : VotingConfig
testnet = settings 128 32 32 0

-- the number that an approved fork total is above
unfoldable pub fork_limit : VotingConfig → ℕ
fork_limit g = voting_length g * vote_epochs g * 9 / 10

unfoldable pub soft_fork_approved : VotingConfig → ℤ → Bool
soft_fork_approved g total = int_lt (pos (fork_limit g)) total

-- an ordinary count is approved if above half the length
unfoldable pub change_approved : VotingConfig → ℕ → Bool
change_approved g votes = nat_lt (voting_length g / 2) votes

-- a length or a number of epochs is above 65,535 (18)
unfoldable pub settings_large : VotingConfig → Bool
settings_large g = nat_lt 65535 (voting_length g) || nat_lt 65535 (vote_epochs g) || nat_lt 65535 (activation_epochs g)
