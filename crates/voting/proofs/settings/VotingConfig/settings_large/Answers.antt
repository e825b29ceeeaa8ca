use Rattle.std.proofs.Common.{refl}
use Rattle.voting.specs.Settings.{settings_large}
use Rattle.voting.proofs.settings.VotingConfig.settings_large.Goals as goal

pub returns : goal.returns
unfolding settings_large
returns c = refl
