use Rattle.std.proofs.Common.{sym, ap, ◌∙◌}
use Rattle.extension.specs.declared.parameters.ParameterMap.{ParameterMap}
use Rattle.extension.specs.Parameters.{table_ids}
use Rattle.writers.specs.Tables.{entries_in, table_parameters}
use Rattle.writers.proofs.Laws.Tables.{entries-end, entries_next, table-carried}
use Rattle.writers.proofs.tables.table_parameters.Goals as goal

pub loop-id-init : goal.loop-id-init
unfolding table_parameters
loop-id-init c = ap (λ (m : ParameterMap). entries_in c.args.table table_ids m) c.no_parameters-m.ensures

pub loop-id-preserved : goal.loop-id-preserved
unfolding table_ids
loop-id-preserved c = sym (entries_next _ _ _ c.loop-id-test.true c.get.ensures c.with-m.ensures) ∙ c.loop-id.invariant

pub returns : goal.returns
returns c = let e = sym (entries-end _ _ _ c.loop-id-test.false) ∙ c.loop-id.invariant in
    record {
      value = e;
      carried = table-carried _ _ e;
    }
