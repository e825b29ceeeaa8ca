use mathlib.Core.Path.{refl}
use Rattle.exports.specs.Windows.{window_number}
use Rattle.exports.proofs.windows.window_number.Goals as goal

pub returns : goal.returns
unfolding window_number
returns c = refl
