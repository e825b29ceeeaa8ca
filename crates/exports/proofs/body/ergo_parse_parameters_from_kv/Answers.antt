use Rattle.wire.specs.Map.{map_bytes}
use mathlib.Core.Path.{sym, ◌∙◌}
use Rattle.exports.proofs.Laws.{into-ok, tells-sized, sized-is}
use Rattle.exports.proofs.body.ergo_parse_parameters_from_kv.Goals as goal

pub returns-in-Ok : goal.returns-in-Ok
returns-in-Ok c = sized-is c.write_map.result c.size_of.ensures (c.write_map.ensures.out_after ∙ into-ok map_bytes _ (sym c.in-Ok.is ∙ c.parse_parameters_from_kv.ensures))

pub returns-in-Err : goal.returns-in-Err
returns-in-Err c = tells-sized map_bytes _ (sym c.in-Err.is ∙ c.parse_parameters_from_kv.ensures) c.number.ensures c.minus.ensures
