use mathlib.Core.Path.{refl}
use Rattle.walk.specs.Fields.{table_from}
use Rattle.walk.proofs.table_of.Goals as goal

pub returns : goal.returns
unfolding table_from
returns c = refl
