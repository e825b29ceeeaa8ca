use Rattle.std.proofs.Common.{ap, ◌∙◌, w16, rules}
use mir.ValLaws.{to_z-of_z}
use Rattle.codec.specs.Rule.{rule_of}
use Rattle.codec.specs.Signed.{signed_of, wrapped, bits_of, modulo}
use Rattle.codec.proofs.Laws.Rule.{offset-back}
use Rattle.codec.proofs.rule.WireOffset.rule_id.Goals as goal

pub returns : goal.returns
unfolding rule_of wrapped bits_of modulo
returns c = record {
  result_value = to_z-of_z w16 c.i16_of.result (search rules) ∙ c.i16_of.ensures ∙ ap (signed_of 16) c.wrapping_add_u16.ensures.value;
  writes_back = offset-back c.args.self.0 (search rules);
}
