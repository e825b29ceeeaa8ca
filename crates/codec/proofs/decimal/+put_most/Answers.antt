use Rattle.std.proofs.Common.{arith}
use Rattle.codec.proofs.Laws.Decimal.{wider, same_text, nothing, joined, digits-none, digits-first, digits_more}
use Rattle.codec.proofs.decimal.+put_most.Goals as goal

pub returns-then-left-eq0 : goal.returns-then-left-eq0
returns-then-left-eq0 t c = wider (omega arith) (same_text (digits-none _ _ c.if-left-eq0.true) (nothing _ _))

pub returns-then-n-lt10 : goal.returns-then-n-lt10
returns-then-n-lt10 t c =
    wider (omega arith) (same_text (digits-first _ _ c.if-left-eq0.false c.if-n-lt10.true) c.put.ensures)

pub returns : goal.returns
returns t c =
    wider
    (omega arith)
    (same_text (digits_more _ _ c.if-left-eq0.false c.if-n-lt10.false) (joined c.put_most-k.ensures c.put-2.ensures))
