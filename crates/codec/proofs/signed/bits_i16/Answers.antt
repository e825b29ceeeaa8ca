use Rattle.std.proofs.Common.{◌∙◌, w16, of_z, ap}
use mir.ValLaws.{to_z-of_z}
use Rattle.codec.proofs.Laws.Signed.{of_z-is}
use Rattle.codec.proofs.signed.bits_i16.Goals as goal

pub returns : goal.returns
returns c = c.cast_unsigned.ensures ∙ ap (of_z w16) (to_z-of_z w16 c.args.x c.ranges.x) ∙ of_z-is w16 c.args.x c.ranges.x
