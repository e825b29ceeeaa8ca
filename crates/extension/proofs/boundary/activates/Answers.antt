use Rattle.extension.proofs.Laws.Boundary.{activates-it, activates-none}
use Rattle.extension.proofs.boundary.activates.Goals as goal

pub returns-then-b : goal.returns-then-b
returns-then-b c = activates-it _ _ c.if-b.true

pub returns-else-b : goal.returns-else-b
returns-else-b c = activates-none _ _ c.if-b.false _ c.no_update.ensures
