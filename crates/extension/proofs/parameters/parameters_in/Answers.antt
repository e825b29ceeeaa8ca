use native.Mathlib.Omega.{arith}
use Rattle.extension.proofs.Laws.Section.{left_all, left_none, left-stop, left-item, items-done, items-stop, items-item}
use Rattle.extension.proofs.Laws.Body.{field-read, field-unread, field-inside}
use Rattle.extension.proofs.Laws.Parameters.{parameters-none, parameters-next}
use Rattle.extension.specs.Parameters.{parameters_in}
use mathlib.Core.Path.{ap₂, sym, ◌∙◌}
use Rattle.extension.proofs.parameters.parameters_in.Goals as goal

pub loop-init : goal.loop-init
loop-init c = ap₂ parameters_in (left_all _ c.args.fields) c.no_parameters-m.ensures

pub slice_bounds-take_field-count : goal.slice_bounds-take_field-count
slice_bounds-take_field-count c = let i = field-inside _ _ _ (sym c.in-Ok.is ∙ c.read_field.ensures) in omega (arith, i.size_is)

pub slice_bounds-take_field-start : goal.slice_bounds-take_field-start
slice_bounds-take_field-start c = let i = field-inside _ _ _ (sym c.in-Ok.is ∙ c.read_field.ensures) in omega (arith, i.size_is)

pub slice_bounds-take_field-end : goal.slice_bounds-take_field-end
slice_bounds-take_field-end c = let i = field-inside _ _ _ (sym c.in-Ok.is ∙ c.read_field.ensures) in omega (arith, i.end-inside)

pub returns-in-Err : goal.returns-in-Err
returns-in-Err c = parameters-none _ _ (items-stop _ _ (left-stop _ _ _ _ c.loop-test.true _ (field-unread _ _ _ (sym c.in-Err.is ∙ c.read_field.ensures)))) ∙ c.loop.invariant

pub loop-preserved : goal.loop-preserved
loop-preserved c = parameters-next _ _ _ _ _ (items-item _ _ _ (left-item _ _ _ _ c.loop-test.true _ _ (field-read _ _ _ (sym c.in-Ok.is ∙ c.read_field.ensures)))) c.take_field.ensures
    ∙ c.loop.invariant

pub returns-after-loop : goal.returns-after-loop
returns-after-loop c = parameters-none _ _ (items-done _ _ (left_none _ _ _ _ c.loop-test.false)) ∙ c.loop.invariant
