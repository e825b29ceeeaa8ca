use Rattle.std.proofs.Common.{sym, ◌∙◌}
use Rattle.voting.proofs.Laws.Tests.{early}
use Rattle.support.proofs.Laws.Calls.{put-room, place_inside, put_refused, put-enters}
use Rattle.support.proofs.window.Window.put.Goals as goal

pub returns-in_err-check_put : goal.returns-in_err-check_put
returns-in_err-check_put c = rw (early _ c.from_residual.ensures.1) (put_refused _ _ _ c.check_put.ensures c.in_err-check_put.was)

pub enter-requires : goal.enter-requires
enter-requires c = let room = put-room _ _ _ (sym c.check_put.ensures ∙ c.in_ok-check_put.was) in place_inside _ _ _ room c.cell_of.ensures

pub onward-requires : goal.onward-requires
onward-requires c = (put-room _ _ _ (sym c.check_put.ensures ∙ c.in_ok-check_put.was)).place

pub returns : goal.returns
returns c = put-enters _ _ _ c.check_put.ensures c.in_ok-check_put.was _ c.onward.ensures _ c.cell_of.ensures _ c.enter.ensures
