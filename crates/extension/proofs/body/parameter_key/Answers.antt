use mathlib.Core.Path.{refl}
use Rattle.extension.specs.Body.{parameter_key}
use Rattle.extension.proofs.body.parameter_key.Goals as goal

pub returns : goal.returns
unfolding parameter_key
returns c = refl
