use Rattle.std.proofs.Common.{◌∙◌, ◌+◌, ◌*◌, rules, arith}
use Rattle.std.specs.Prelude.{None}
use Rattle.wire.specs.Values.{value_at}
use Rattle.wire.proofs.Laws.{made, slots_read}
use Rattle.wire.proofs.values.slots_at.Goals as goal

pub returns : goal.returns
returns c = let bytes = c.args.bytes.now in
    made _ _ 9 (λ k. (value_at bytes (c.args.at + 5 * k))) None (λ i y q l h. search rules) _ c.from_fn.ensures.items ∙ slots_read 9 0 c.args.at c.args.at bytes (omega arith)
