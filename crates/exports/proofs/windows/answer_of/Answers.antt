use mathlib.Core.Path.{sym}
use Rattle.exports.proofs.WindowLaws.{answer-refused, answer-window}
use Rattle.exports.proofs.windows.answer_of.Goals as goal

pub returns-in-Ok : goal.returns-in-Ok
returns-in-Ok c = answer-window (sym c.in-Ok.is) c.window_number.ensures

pub returns-in-Err : goal.returns-in-Err
returns-in-Err c = answer-refused (sym c.in-Err.is) c.number.ensures c.minus.ensures
