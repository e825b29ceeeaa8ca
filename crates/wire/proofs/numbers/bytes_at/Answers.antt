use Rattle.std.proofs.Common.{◌∙◌, ◌+◌, rules, arith, get_or}
use Rattle.wire.proofs.Laws.{made, bytes_read}
use Rattle.wire.proofs.numbers.bytes_at.Goals as goal

pub returns : goal.returns
returns g c = let bytes = c.args.bytes.now in
    made _ _ g.row.N (λ k. get_or bytes (c.args.at + k) 0) 0 (λ i y q l h. search rules) _ c.from_fn.ensures.items ∙ bytes_read g.row.N 0 c.args.at c.args.at bytes (omega arith)
