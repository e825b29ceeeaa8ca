use Rattle.std.proofs.Common.{◌<◌, length, sym, ap, ◌∙◌, arith, rules}
use mir.Syntax.{w32}
use mir.Val.{SFits}
use mir.ValLaws.{to_z-of_z}
use Rattle.std.specs.Prelude.{Some}
use Rattle.extension.specs.Parameters.{number_in}
use Rattle.wire.specs.Map.{map_in, map_of}
use Rattle.wire.proofs.MapLaws.{in-none, in_one}
use Rattle.wire.proofs.map.map_of.Goals as goal

pub loop-entry-preserved : goal.loop-entry-preserved
unfolding number_in
loop-entry-preserved c = let l = c.loop-entry in
    let steps = c.in-Some.ensures.steps in
    let f : SFits w32 c.i32_from_be_bytes-z.result = search rules in
    let v = ap Some (to_z-of_z w32 _ f ∙ c.i32_from_be_bytes-z.ensures.value) in
    record {
      size = steps.0 ∙ l.invariant.size;
      left = in_one l.m _ _ (steps.1.1 ∙ l.invariant.size) steps.1.0 c.with-m.ensures v ∙ l.invariant.left;
    }

pub returns : goal.returns
unfolding map_of
returns c = let l = c.loop-entry in
    let short : length l.entry-iterator.rest.now < 5 = omega (arith, c.in-None.ensures.steps.1.0, l.invariant.size) in
    sym (in-none l.m _ short) ∙ l.invariant.left ∙ ap (map_in _) c.no_parameters-m.ensures
