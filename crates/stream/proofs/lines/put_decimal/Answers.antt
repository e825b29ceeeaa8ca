use Rattle.std.proofs.Common.{arith, [], ◌∷◌}
use Rattle.codec.specs.Put.{Put}
use Rattle.codec.proofs.Laws.Decimal.{wider, same_text, joined, nothing}
use Rattle.stream.proofs.Laws.Lines.{decimal-neg, decimal-pos}
use Rattle.stream.proofs.lines.put_decimal.Goals.{then-x-lt0, else-x-lt0}
use Rattle.stream.proofs.lines.put_decimal.Goals as goal

pub returns : goal.returns
returns c =
    let a = c.args in
    let s = c.if-x-lt0 in
    let n = c.unsigned_abs in
    elim c.if-x-lt0.branch [
      | then-x-lt0 w ↦
          let sign : Put (45 ∷ []) 1 a.at s.start a.out.now s.out = rw (w.start-is, w.out-is) w.put-start.ensures in
          same_text (decimal-neg a.x c.ranges.x n.result n.ensures.value w.if-x-lt0.true) (joined sign c.put_digits.ensures)
      | else-x-lt0 w ↦
          let sign : Put [] 0 a.at s.start a.out.now s.out = rw (w.start-is, w.out-is) (nothing a.at a.out.now) in
          wider {m = 10} (omega arith) (same_text (decimal-pos a.x c.ranges.x n.result n.ensures.value w.if-x-lt0.false) (joined sign c.put_digits.ensures))
    ]
