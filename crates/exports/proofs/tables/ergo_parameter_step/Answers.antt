use Rattle.voting.specs.Ordinary.{parameter_step}
use mir.Val.{SFits}
use mir.Syntax.{w8}
use mir.ValLaws.{to_z-of_z}
use Rattle.voting.specs.Value.{Value}
use Rattle.wire.specs.Values.{value_bytes}
use Rattle.codec.specs.Output.{writes}
use mathlib.Core.Path.{ap, ◌∙◌}
use Rattle.exports.proofs.Laws.{numbered_is}
use borrow.Author.Rules.{rules}
use Rattle.exports.proofs.tables.ergo_parameter_step.Goals as goal

pub returns : goal.returns
returns c = let w = c.write_value in
    let s = c.args in
    let f : SFits w8 s.id = search rules in
    let e = c.parameter_step-v.ensures ∙ ap parameter_step (to_z-of_z w8 s.id f) in
    numbered_is w.result c.number_of.ensures (w.ensures.out_after ∙ ap (λ (v : Value). writes (value_bytes v) s.out.now) e)
