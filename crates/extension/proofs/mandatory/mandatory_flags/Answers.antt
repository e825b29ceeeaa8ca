use mathlib.Core.Path.{refl}
use Rattle.extension.specs.Mandatory.{mandatory_rule, mandatory_flags}
use Rattle.extension.proofs.mandatory.mandatory_flags.Goals as goal

pub returns : goal.returns
unfolding mandatory_rule mandatory_flags
returns c = refl
