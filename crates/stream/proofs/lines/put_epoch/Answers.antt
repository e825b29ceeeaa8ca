use Rattle.codec.proofs.Laws.Decimal.{joined}
use Rattle.stream.specs.Lines.{epoch_line}
use Rattle.stream.proofs.lines.put_epoch.Goals as goal

pub returns : goal.returns
unfolding epoch_line
returns c = joined (joined (joined (joined (joined (joined (joined c.put_digits-a.ensures c.put-b.ensures) c.put_column-c.ensures) c.put-d.ensures) c.put_column-e.ensures) c.put-f.ensures) c.put_column-g.ensures) c.put.ensures
