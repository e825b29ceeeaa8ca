use Rattle.std.proofs.Common.{◌+ℤ◌, ◌∙◌, w32}
use Rattle.std.proofs.lemmas.Int.{wrapping_add_is}
use Rattle.codec.proofs.Laws.Signed.{wrapped-is}
use Rattle.codec.proofs.signed.wrapping_add_i32.Goals as goal

pub returns : goal.returns
returns c = wrapping_add_is w32 c.args.a c.args.b c.ranges.a c.ranges.b ∙ wrapped-is w32 (c.args.a +ℤ c.args.b)
