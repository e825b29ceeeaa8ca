use Rattle.std.proofs.Common.{sym, ◌∙◌, rules}
use Rattle.voting.proofs.Laws.Tests.{early}
use Rattle.support.proofs.Laws.Calls.{new-room, new-refused, cells-inside}
use Rattle.support.proofs.Laws.Kept.{kept-made}
use Rattle.support.proofs.window.new.Goals as goal

pub returns-in_err-check_new-clause-cells_after : goal.returns-in_err-check_new-clause-cells_after
returns-in_err-check_new-clause-cells_after c = rw (early _ c.from_residual.ensures.1) (new-refused _ _ c.check_new.ensures c.in_err-check_new.was)

pub overflow_cast-n : goal.overflow_cast-n
overflow_cast-n c = let room = new-room _ _ (sym c.check_new.ensures ∙ c.in_ok-check_new.was) in search rules

pub clear-requires : goal.clear-requires
clear-requires c = let room = new-room _ _ (sym c.check_new.ensures ∙ c.in_ok-check_new.was) in cells-inside _ _ _ room c.cell_of.ensures

pub returns : goal.returns
returns c = record {
  cells_after = (kept-made _ _ c.check_new.ensures c.in_ok-check_new.was _ c.empty.ensures _ c.cell_of.ensures _ c.clear.ensures).0;
  support = (kept-made _ _ c.check_new.ensures c.in_ok-check_new.was _ c.empty.ensures _ c.cell_of.ensures _ c.clear.ensures).1;
}
