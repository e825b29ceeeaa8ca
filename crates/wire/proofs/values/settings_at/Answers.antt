use Rattle.wire.specs.Values.{settings_at}
use Rattle.wire.proofs.values.settings_at.Goals as goal

pub returns : goal.returns
unfolding settings_at
returns c = rw (c.u32_at.ensures, c.u32_at-2.ensures, c.u32_at-3.ensures, c.u32_at-4.ensures)
