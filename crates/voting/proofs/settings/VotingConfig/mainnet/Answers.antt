use Rattle.std.proofs.Common.{refl}
use Rattle.voting.specs.Settings.{mainnet}
use Rattle.voting.proofs.settings.VotingConfig.mainnet.Goals as goal

pub returns : goal.returns
unfolding mainnet
returns c = refl
