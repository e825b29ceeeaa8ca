use Rattle.wire.specs.Places.{section_at}
use Rattle.wire.proofs.places.section_at.Goals as goal

pub returns : goal.returns
unfolding section_at
returns c = rw (c.u32_at.ensures, c.u32_at-2.ensures, c.u32_at-3.ensures)
