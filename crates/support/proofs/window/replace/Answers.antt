use Rattle.std.proofs.Common.{◌∙◌, arith, length-set}
use Rattle.support.proofs.Laws.Calls.{replaced-is}
use Rattle.support.proofs.window.replace.Goals as goal

pub join-requires : goal.join-requires
join-requires c = simp length-set (omega arith)

pub shape_of-cells : goal.shape_of-cells
shape_of-cells c = let left = c.leave in let given = c.args in c.join.auto.cells ∙ length-set left.new.cells given.at c.from.result ∙ left.auto.cells

pub returns : goal.returns
returns c = replaced-is _ _ _ _ _ _ c.from.ensures c.leave.ensures c.join.ensures
