use mathlib.Core.Path.{refl}
use Rattle.extension.specs.Parameters.{no_parameters, entry_of}
use Rattle.walk.specs.Walk.{table_in}
use Rattle.walk.proofs.no_entries.Goals as goal

pub returns : goal.returns
unfolding table_in entry_of no_parameters
returns c = refl
