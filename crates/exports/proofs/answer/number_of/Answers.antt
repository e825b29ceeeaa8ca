use Rattle.exports.specs.Reply.{answer_of}
use mathlib.Core.Path.{sym, ◌∙◌}
use Rattle.exports.proofs.answer.number_of.Goals as goal

pub returns-in-Ok : goal.returns-in-Ok
unfolding answer_of
returns-in-Ok g c = sym (rw c.in-Ok.is)

pub returns-in-Err : goal.returns-in-Err
unfolding answer_of
returns-in-Err g c = c.number.ensures ∙ sym (rw c.in-Err.is)
