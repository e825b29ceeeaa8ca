use Rattle.std.proofs.Common.{◌∙◌, w16, rules}
use mir.ValLaws.{to_z-of_z}
use Rattle.codec.proofs.Laws.Signed.{to_z-is}
use Rattle.codec.proofs.signed.i16_of.Goals as goal

pub returns : goal.returns
returns c = to_z-of_z w16 c.cast_signed.result (search rules) ∙ c.cast_signed.ensures ∙ to_z-is w16 c.args.b
