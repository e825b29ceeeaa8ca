use Rattle.std.proofs.Common.{refl}
use Rattle.voting.specs.Settings.{change_approved}
use Rattle.voting.proofs.settings.VotingConfig.change_approved.Goals as goal

pub returns : goal.returns
unfolding change_approved
returns c = refl
