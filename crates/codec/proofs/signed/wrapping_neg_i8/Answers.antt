use Rattle.std.proofs.Common.{neg_ℤ, ◌∙◌, w8, rules, ap}
use mir.ValLaws.{to_z-of_z}
use Rattle.std.specs.Int.{int_wrapping_neg}
use Rattle.std.proofs.lemmas.Int.{wrapping_neg_is}
use Rattle.codec.proofs.Laws.Signed.{wrapped-is}
use Rattle.codec.proofs.signed.wrapping_neg_i8.Goals as goal

pub returns : goal.returns
returns c = to_z-of_z w8 c.wrapping_neg.result (search rules) ∙ c.wrapping_neg.ensures ∙ ap (int_wrapping_neg w8) (to_z-of_z w8 c.args.x c.ranges.x)
    ∙ wrapping_neg_is w8 c.args.x c.ranges.x ∙ wrapped-is w8 (neg_ℤ c.args.x)
