use Rattle.std.proofs.Common.{ap, ◌∙◌, w16, SFits, rules}
use mir.ValLaws.{to_z-of_z}
use Rattle.codec.specs.Signed.{bits_of}
use Rattle.codec.proofs.Laws.Rule.{offset-is, rule-back}
use Rattle.codec.proofs.rule.RuleId.wire_offset.Goals as goal

pub returns : goal.returns
returns c = let z = c.args.self.0 in
    let f : SFits w16 z = search rules in
    record {
      result_value = offset-is z f (c.bits_i16.ensures ∙ ap (bits_of 16) (to_z-of_z w16 z f)) (search rules) c.wrapping_sub_u16.ensures.value;
      reads_back = rule-back z f;
    }
