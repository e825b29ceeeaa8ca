use mathlib.Core.Path.{refl}
use Rattle.extension.specs.Parameters.{entry_of}
use Rattle.extension.proofs.parameters.ParameterMap.get.Goals as goal

pub returns : goal.returns
unfolding entry_of
returns c = refl
