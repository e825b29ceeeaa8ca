use Rattle.wire.specs.Numbers.{bytes_at}
use Rattle.wire.proofs.numbers.votes_of.Goals as goal

pub returns : goal.returns
unfolding bytes_at
returns c = c.bytes_at.ensures
