use Rattle.wire.specs.Places.{update_at}
use Rattle.wire.proofs.places.update_of.Goals as goal

pub returns : goal.returns
unfolding update_at
returns c = rw (c.section_at.ensures, c.section_at-2.ensures)
