use Rattle.std.proofs.Common.{arith, w32, SFits, rules}
use Rattle.codec.proofs.Laws.Decimal.{wider, same_text}
use Rattle.stream.proofs.Laws.Lines.{column-absent, column-number}
use Rattle.stream.proofs.lines.put_column.Goals as goal

pub returns-in-None : goal.returns-in-None
returns-in-None c = wider (omega arith) (same_text (column-absent _ c.in-None.is) c.put.ensures)

pub returns-in-Some : goal.returns-in-Some
returns-in-Some c = let x = c.in-Some.x in
    let f : SFits w32 x = search rules in
    same_text (column-number _ x f c.in-Some.is) c.put_decimal.ensures
