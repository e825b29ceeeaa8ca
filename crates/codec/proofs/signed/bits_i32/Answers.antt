use Rattle.std.proofs.Common.{◌∙◌, w32, of_z, ap}
use mir.ValLaws.{to_z-of_z}
use Rattle.codec.proofs.Laws.Signed.{of_z-is}
use Rattle.codec.proofs.signed.bits_i32.Goals as goal

pub returns : goal.returns
returns c = c.cast_unsigned.ensures ∙ ap (of_z w32) (to_z-of_z w32 c.args.x c.ranges.x) ∙ of_z-is w32 c.args.x c.ranges.x
