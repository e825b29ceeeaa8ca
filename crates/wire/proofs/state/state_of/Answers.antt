use Rattle.wire.specs.State.{state_at}
use Rattle.wire.proofs.state.state_of.Goals as goal

pub returns : goal.returns
unfolding state_at
returns c = rw (c.settings_at.ensures, c.table_at.ensures, c.u32_at.ensures, c.tally_at.ensures)
