use Rattle.std.proofs.Common.{ℕ, List, ap, ◌∙◌, rules}
use Rattle.codec.specs.Output.{writes}
use Rattle.codec.proofs.Laws.Decimal.{read_back}
use Rattle.stream.proofs.lines.write_end.Goals as goal

pub returns : goal.returns
returns c = c.hand_out.ensures ∙ ap (λ (w : List ℕ). writes w c.args.out.now) (read_back c.put_end-n.ensures (search rules))
