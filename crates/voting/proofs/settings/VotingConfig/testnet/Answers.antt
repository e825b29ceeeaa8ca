use Rattle.std.proofs.Common.{refl}
use Rattle.voting.specs.Settings.{testnet}
use Rattle.voting.proofs.settings.VotingConfig.testnet.Goals as goal

pub returns : goal.returns
unfolding testnet
returns c = refl
