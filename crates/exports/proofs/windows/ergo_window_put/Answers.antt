use Rattle.exports.proofs.WindowLaws.{put-reply}
use Rattle.exports.proofs.windows.ergo_window_put.Goals as goal

pub returns : goal.returns
returns c = put-reply _ _ _ c.answer_of.ensures _ _ c.window_at-w.ensures _ _ c.votes_of-v.ensures _ c.put.ensures
