use Rattle.wire.specs.Values.{tally_at}
use Rattle.wire.proofs.values.tally_at.Goals as goal

pub returns : goal.returns
unfolding tally_at
returns c = rw (c.entry_at.ensures, c.entry_at-2.ensures, c.entry_at-3.ensures)
