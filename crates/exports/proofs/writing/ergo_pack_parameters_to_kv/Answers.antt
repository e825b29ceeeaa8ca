use Rattle.extension.specs.declared.parameters.ParameterMap.{ParameterMap}
use Rattle.writers.specs.Pack.{pack_parameters}
use mathlib.Core.Path.{ap, ◌∙◌}
use Rattle.exports.proofs.Laws.{sized-is}
use Rattle.exports.proofs.writing.ergo_pack_parameters_to_kv.Goals as goal

pub returns : goal.returns
returns c = sized-is c.pack_parameters_to_kv.result c.size_of.ensures (c.pack_parameters_to_kv.ensures.out_after ∙ ap (λ (x : ParameterMap). pack_parameters x c.args.out.now) c.map_of-m.ensures)
