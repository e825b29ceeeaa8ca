use Rattle.headers.proofs.Laws.Lanes.{not-illegal}
use Rattle.headers.proofs.lanes.header_illegal.Goals as goal

pub returns : goal.returns
returns c = not-illegal _ c.is_illegal.ensures
