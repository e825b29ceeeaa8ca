use Rattle.exports.specs.Reply.{answer_of, minus}
use mathlib.Core.Path.{sym, ap, ◌∙◌}
use Rattle.exports.proofs.answer.size_of.Goals as goal

pub returns-in-Ok : goal.returns-in-Ok
unfolding answer_of
returns-in-Ok c = sym (rw c.in-Ok.is)

pub returns-in-Err : goal.returns-in-Err
unfolding answer_of
returns-in-Err c = c.minus.ensures ∙ ap minus c.number.ensures ∙ sym (rw c.in-Err.is)
