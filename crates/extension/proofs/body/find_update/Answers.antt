use native.Mathlib.Omega.{arith}
use Rattle.extension.proofs.Laws.Section.{left_all, left_none, left-stop, left-item, items-done, items-stop, items-item}
use Rattle.extension.proofs.Laws.Body.{field-read, field-unread, field-inside, update-none, update_here, update-next}
use Rattle.extension.specs.Body.{update_in}
use mathlib.Core.Path.{ap, sym, ◌∙◌}
use Rattle.extension.proofs.body.find_update.Goals as goal
use Rattle.extension.proofs.body.find_update.Goals.{else-loop-test, then-loop-test+in-Err}

pub loop-init : goal.loop-init
loop-init c = ap update_in (left_all _ c.args.fields)

pub returns-then-update_key : goal.returns-then-update_key
returns-then-update_key c =
    update_here _ _ _ (items-item _ _ _ (left-item _ _ _ _ c.loop-test.true _ _ (field-read _ _ _ (sym c.in-Ok.is ∙ c.read_field.ensures)))) (sym c.update_key.ensures ∙ c.if-update_key.true)
    ∙ c.loop.invariant

pub loop-preserved : goal.loop-preserved
loop-preserved c = update-next _ _ _ (items-item _ _ _ (left-item _ _ _ _ c.loop-test.true _ _ (field-read _ _ _ (sym c.in-Ok.is ∙ c.read_field.ensures)))) (sym c.update_key.ensures ∙ c.if-update_key.false)
    ∙ c.loop.invariant

pub slice_bounds-result-count : goal.slice_bounds-result-count
slice_bounds-result-count c = let i = field-inside _ _ _ (sym c.in-Ok.is ∙ c.read_field.ensures) in omega (arith, i.size_is)

pub slice_bounds-result-start : goal.slice_bounds-result-start
slice_bounds-result-start c = let i = field-inside _ _ _ (sym c.in-Ok.is ∙ c.read_field.ensures) in omega (arith, i.size_is)

pub slice_bounds-result-end : goal.slice_bounds-result-end
slice_bounds-result-end c = let i = field-inside _ _ _ (sym c.in-Ok.is ∙ c.read_field.ensures) in i.end-inside

pub returns : goal.returns
returns c =
    elim c.loop-test.branch [
      | else-loop-test w ↦ update-none _ (items-done _ _ (left_none _ _ _ _ w.loop-test.false)) ∙ c.loop.invariant
      | then-loop-test+in-Err w ↦ update-none _ (items-stop _ _ (left-stop _ _ _ _ w.loop-test.true _ (field-unread _ _ _ (sym w.in-Err.is ∙ w.read_field.ensures)))) ∙ c.loop.invariant
    ]
