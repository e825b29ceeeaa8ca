use mathlib.Core.Path.{refl}
use Rattle.extension.specs.Parameters.{no_parameters}
use Rattle.extension.proofs.parameters.no_parameters.Goals as goal

pub returns : goal.returns
unfolding no_parameters
returns c = refl
