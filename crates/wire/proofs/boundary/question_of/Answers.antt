use Rattle.wire.specs.Boundary.{question_of}
use Rattle.wire.proofs.boundary.question_of.Goals as goal

pub returns : goal.returns
unfolding question_of
returns c = rw (c.settings_at.ensures, c.u32_at.ensures, c.table_at.ensures, c.byte_at.ensures)
