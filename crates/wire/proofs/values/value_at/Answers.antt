use Rattle.std.proofs.Common.{◌∙◌, rules, w32}
use Rattle.wire.proofs.Laws.{value_read, signed_is}
use Rattle.wire.proofs.values.value_at.Goals as goal

pub returns : goal.returns
returns c = let z = c.cast_signed in
    c.then_some.ensures ∙ value_read _ _ _ _ c.byte_at-present.ensures c.u32_at-n.ensures _ (signed_is w32 z.result (search rules) _ z.ensures)
