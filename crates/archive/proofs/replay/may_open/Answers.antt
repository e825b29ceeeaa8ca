use mathlib.Core.Path.{refl}
use Rattle.voting.specs.Settings.{mainnet}
use Rattle.archive.specs.Replay.{may_open}
use Rattle.archive.proofs.replay.may_open.Goals as goal

pub returns : goal.returns
unfolding may_open mainnet
returns c = refl
