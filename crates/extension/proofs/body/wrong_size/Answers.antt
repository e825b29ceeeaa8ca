use Rattle.extension.specs.Body.{wrong_size}
use Rattle.extension.proofs.body.wrong_size.Goals as goal

pub returns : goal.returns
unfolding wrong_size
returns c = rw c.parameter_key.ensures
