use Rattle.std.proofs.Common.{true, false}
use Rattle.support.proofs.Laws.Calls.{room_by}
use Rattle.support.proofs.window.check_room.Goals as goal

pub returns-then-w-cell_of : goal.returns-then-w-cell_of
returns-then-w-cell_of c = room_by _ _ true _ c.cell_of.ensures c.if-w-cell_of.true

pub returns : goal.returns
returns c = room_by _ _ false _ c.cell_of.ensures c.if-w-cell_of.false
