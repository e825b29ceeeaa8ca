use Rattle.voting.specs.declared.table.Table.{Table}
use Rattle.voting.specs.Table.{default_parameters}
use Rattle.wire.specs.Values.{table_bytes}
use Rattle.codec.specs.Output.{writes}
use mathlib.Core.Path.{ap, ◌∙◌}
use Rattle.exports.proofs.Laws.{numbered_is}
use Rattle.exports.proofs.tables.ergo_default_parameters.Goals as goal

pub returns : goal.returns
returns c = numbered_is c.write_table.result c.number_of.ensures (c.write_table.ensures.out_after ∙ ap (λ (t : Table). writes (table_bytes t) c.args.out.now) (c.default_parameters-t.ensures ∙ ap default_parameters c.network_of.ensures))
