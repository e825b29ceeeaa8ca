use Rattle.std.proofs.Common.{[], ◌∷◌, refl, arith}
use Rattle.codec.specs.Put.{Put}
use Rattle.codec.proofs.Laws.Decimal.{joined}
use Rattle.stream.specs.Lines.{end_line}
use Rattle.stream.proofs.lines.put_end.Goals as goal

pub returns : goal.returns
unfolding end_line
returns c =
    let word : Put (101 ∷ 110 ∷ 100 ∷ 32 ∷ []) 4 0 4 c.args.out.now c.put_bytes.new.out = record { is = c.put_bytes.ensures; ends = refl; small = omega arith } in
    joined (joined (joined (joined word c.put_digits-a.ensures) c.put-b.ensures) (rw c.from.ensures at c.put_digits-c.ensures)) c.put.ensures
