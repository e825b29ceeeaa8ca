use Rattle.extension.proofs.Laws.Parameters.{matched-none, matched-some, table-id, differs-here, differs_next, differs_none}
use Rattle.extension.proofs.Laws.Matched.{least-carried}
use Rattle.extension.specs.Parameters.{table_ids}
use mathlib.Core.Path.{refl, ◌∙◌}
use Rattle.extension.proofs.parameters.check_parameters_v6.Goals as goal

pub returns-then-differs : goal.returns-then-differs
unfolding table_ids
returns-then-differs c =
    let p = least-carried _ _ _ (matched-some _ _ _
    (differs-here _ _ _ c.loop-id-test.true _ c.get.ensures _ c.get-in-loop-id.ensures _ c.differs.ensures c.if-differs.true ∙ c.loop-id.invariant)
    (table-id _ c.loop-id-test.true)) in
    record { value = p.0; least = p.1 }

pub loop-id-preserved : goal.loop-id-preserved
unfolding table_ids
loop-id-preserved c = differs_next _ _ _ c.loop-id-test.true _ c.get.ensures _ c.get-in-loop-id.ensures _ c.differs.ensures c.if-differs.false ∙ c.loop-id.invariant

pub returns : goal.returns
returns c =
    let p = least-carried _ _ _ (matched-none _ _ _ (differs_none _ _ _ c.loop-id-test.false ∙ c.loop-id.invariant) refl) in
    record { value = p.0; least = p.1 }
