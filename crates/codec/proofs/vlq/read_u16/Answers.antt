use Rattle.codec.specs.Vlq.{vlq_at, vlq_of}
use Rattle.codec.proofs.vlq.read_u16.Goals as goal

pub returns : goal.returns
unfolding vlq_at vlq_of
returns c = c.read_below.ensures
