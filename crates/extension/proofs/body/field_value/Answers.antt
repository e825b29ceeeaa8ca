use mathlib.Core.Path.{sym, ◌∙◌}
use native.Mathlib.Omega.{arith}
use Rattle.extension.proofs.Laws.Body.{at-inside, value-here, value_none}
use Rattle.extension.proofs.body.field_value.Goals as goal

pub slice_bounds-result-count : goal.slice_bounds-result-count
slice_bounds-result-count c = let i = at-inside _ _ _ (sym c.in-Ok.is ∙ c.field_at.ensures) in omega (arith, i.0)

pub slice_bounds-result-start : goal.slice_bounds-result-start
slice_bounds-result-start c = let i = at-inside _ _ _ (sym c.in-Ok.is ∙ c.field_at.ensures) in omega (arith, i.0)

pub slice_bounds-result-end : goal.slice_bounds-result-end
slice_bounds-result-end c = let i = at-inside _ _ _ (sym c.in-Ok.is ∙ c.field_at.ensures) in omega (arith, i.1)

pub returns-in-Ok : goal.returns-in-Ok
returns-in-Ok c = value-here _ _ _ (sym c.in-Ok.is ∙ c.field_at.ensures)

pub returns-in-Err : goal.returns-in-Err
returns-in-Err c = value_none _ _ _ (sym c.in-Err.is ∙ c.field_at.ensures)
