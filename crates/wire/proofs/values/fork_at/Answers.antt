use Rattle.wire.specs.Values.{fork_at}
use Rattle.wire.proofs.values.fork_at.Goals as goal

pub returns : goal.returns
unfolding fork_at
returns c = rw (c.value_at.ensures, c.value_at-2.ensures, c.value_at-3.ensures)
