use mathlib.Core.Path.{refl}
use Rattle.exports.specs.Windows.{window_at}
use Rattle.exports.proofs.windows.window_at.Goals as goal

pub returns : goal.returns
unfolding window_at
returns c = refl
