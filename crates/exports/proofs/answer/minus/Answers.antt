use Rattle.codec.specs.Signed.{bits_of, modulo}
use Rattle.exports.proofs.Laws.{minus-some}
use Rattle.exports.specs.Reply.{minus}
use borrow.Author.Rules.{rules}
use Rattle.exports.proofs.answer.minus.Goals as goal

pub returns-then-e-eq0 : goal.returns-then-e-eq0
unfolding minus bits_of modulo
returns-then-e-eq0 c = rw c.if-e-eq0.true

pub returns : goal.returns
returns c = minus-some _ c.if-e-eq0.false (search rules)
