use Rattle.voting.specs.declared.table.Table.{Table}
use Rattle.stream.specs.Lines.{epoch_line}
use Rattle.codec.specs.Output.{writes}
use mathlib.Core.Path.{ap, ◌∙◌}
use Rattle.exports.proofs.Laws.{sized-is}
use Rattle.exports.proofs.records.ergo_write_epoch.Goals as goal

pub returns : goal.returns
returns c = sized-is c.write_epoch.result c.size_of.ensures (c.write_epoch.ensures ∙ ap (λ (t : Table). writes (epoch_line c.args.height t.fork) c.args.out.now) c.table_of-t.ensures)
