use Rattle.wire.specs.Numbers.{number_bytes}
use mir.Val.{SFits}
use mir.Syntax.{w16}
use mathlib.Core.Path.{ap, ◌∙◌}
use Rattle.wire.specs.Places.{status_bytes}
use Rattle.wire.proofs.Laws.{handed, renamed, four_same, bits-are}
use borrow.Author.Rules.{rules}
use Rattle.wire.proofs.places.write_status.Goals as goal

pub returns : goal.returns
unfolding status_bytes
returns c = let z = c.args.x.rule.0 in
    let f : SFits w16 z = search rules in
    let e = c.from.ensures ∙ bits-are w16 z f c.cast_unsigned-rule.ensures in
    let put = renamed (four_same _ _ _ _ _ _ (ap number_bytes e) (ap number_bytes c.from-2.ensures)) c.put_four.ensures in
    record {
      out_after = handed put (search rules) _ c.write_bytes.ensures;
      size = put.long;
    }
