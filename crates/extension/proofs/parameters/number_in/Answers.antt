use mir.Syntax.{w32}
use mir.Val.{SFits}
use mir.ValLaws.{to_z-of_z}
use mathlib.Core.Path.{ap, ◌∙◌}
use Rattle.std.specs.Prelude.{Some}
use Rattle.extension.specs.Parameters.{number_in}
use borrow.Author.Rules.{rules}
use Rattle.extension.proofs.parameters.number_in.Goals as goal

pub returns : goal.returns
unfolding number_in
returns c = let f : SFits w32 c.i32_from_be_bytes.result = search rules in
    ap Some (to_z-of_z w32 _ f ∙ c.i32_from_be_bytes.ensures.value)
