use mathlib.Core.Path.{sym, ◌∙◌}
use native.Mathlib.Omega.{arith}
use Rattle.extension.proofs.Laws.Update.{raw-inside, raw-is, raw-none}
use Rattle.extension.proofs.update.status_raw.Goals as goal

pub slice_bounds-result-count : goal.slice_bounds-result-count
slice_bounds-result-count c = let i = raw-inside _ _ _ (sym c.in-Ok.is ∙ c.status_at.ensures) in omega (arith, i.0)

pub slice_bounds-result-start : goal.slice_bounds-result-start
slice_bounds-result-start c = let i = raw-inside _ _ _ (sym c.in-Ok.is ∙ c.status_at.ensures) in omega (arith, i.0)

pub slice_bounds-result-end : goal.slice_bounds-result-end
slice_bounds-result-end c = let i = raw-inside _ _ _ (sym c.in-Ok.is ∙ c.status_at.ensures) in omega (arith, i.1)

pub returns-in-Ok : goal.returns-in-Ok
returns-in-Ok c = raw-is _ _ _ (sym c.in-Ok.is ∙ c.status_at.ensures)

pub returns-in-Err : goal.returns-in-Err
returns-in-Err c = raw-none _ _ _ (sym c.in-Err.is ∙ c.status_at.ensures)
