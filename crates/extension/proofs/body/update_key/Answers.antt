use mathlib.Core.Path.{refl}
use Rattle.extension.specs.Body.{update_key}
use Rattle.extension.proofs.body.update_key.Goals as goal

pub returns : goal.returns
unfolding update_key
returns c = refl
