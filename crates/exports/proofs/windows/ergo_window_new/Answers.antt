use Rattle.exports.proofs.WindowLaws.{reply-is, kept-through}
use Rattle.exports.proofs.windows.ergo_window_new.Goals as goal

pub returns : goal.returns
returns c = let made = c.new in record {
  cells_after = reply-is _ _ _ c.answer_of.ensures _ made.ensures.cells_after;
  support = kept-through _ _ _ _ _ c.answer_of.ensures made.ensures.cells_after made.ensures.support;
}
