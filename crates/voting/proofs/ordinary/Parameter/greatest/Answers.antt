use Rattle.std.proofs.Common.{◌∙◌, w32, rules}
use mir.ValLaws.{to_z-of_z}
use Rattle.voting.specs.Ordinary.{greatest_of}
use Rattle.voting.proofs.ordinary.Parameter.greatest.Goals as goal

pub returns : goal.returns
unfolding greatest_of
returns c = to_z-of_z w32 c.entry.result (search rules) ∙ c.entry.ensures
