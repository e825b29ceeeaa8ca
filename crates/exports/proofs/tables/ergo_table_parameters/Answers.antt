use mathlib.Core.Path.{ap, ◌∙◌}
use Rattle.codec.specs.Output.{writes}
use Rattle.extension.specs.declared.parameters.ParameterMap.{ParameterMap}
use Rattle.writers.specs.Tables.{table_parameters}
use Rattle.wire.specs.Map.{map_bytes}
use Rattle.exports.proofs.Laws.{sized-is}
use Rattle.exports.proofs.tables.ergo_table_parameters.Goals as goal

pub returns : goal.returns
returns c = let cells = c.args.out.now in
    sized-is c.write_map.result c.size_of.ensures
    (c.write_map.ensures.out_after ∙ ap (λ (m : ParameterMap). writes (map_bytes m) cells) (c.table_parameters-m.ensures.value ∙ ap table_parameters c.table_of-t.ensures))
