use native.Mathlib.Omega.{arith}
use Rattle.extension.proofs.Laws.Section.{left_all, left_none, left-stop, left-item, items-done, items-stop, items-item, any_none, any_found, any-passed}
use Rattle.extension.proofs.Laws.Body.{field-read, field-unread, field-inside, wrong-place}
use Rattle.extension.specs.Section.{any}
use Rattle.extension.specs.Body.{wrong_parameter}
use mathlib.Core.Path.{ap, sym, ◌∙◌}
use Rattle.extension.proofs.body.any_wrong_size.Goals as goal

pub loop-init : goal.loop-init
loop-init c = ap (any wrong_parameter) (left_all _ c.args.fields)

pub overflow_sub-f : goal.overflow_sub-f
overflow_sub-f c = let i = field-inside _ _ _ (sym c.in-Ok.is ∙ c.read_field.ensures) in omega (arith, i.size_is)

pub returns-then-wrong_size : goal.returns-then-wrong_size
returns-then-wrong_size c = any_found _ _ _ _ (items-item _ _ _ (left-item _ _ _ _ c.loop-test.true _ _ (field-read _ _ _ (sym c.in-Ok.is ∙ c.read_field.ensures)))) (wrong-place _ _ _ (sym c.in-Ok.is ∙ c.read_field.ensures) _ c.wrong_size.ensures ∙ c.if-wrong_size.true)
    ∙ c.loop.invariant

pub returns-in-Err : goal.returns-in-Err
returns-in-Err c = any_none _ _ (items-stop _ _ (left-stop _ _ _ _ c.loop-test.true _ (field-unread _ _ _ (sym c.in-Err.is ∙ c.read_field.ensures)))) ∙ c.loop.invariant

pub loop-preserved : goal.loop-preserved
loop-preserved c = any-passed _ _ _ _ (items-item _ _ _ (left-item _ _ _ _ c.loop-test.true _ _ (field-read _ _ _ (sym c.in-Ok.is ∙ c.read_field.ensures)))) (wrong-place _ _ _ (sym c.in-Ok.is ∙ c.read_field.ensures) _ c.wrong_size.ensures ∙ c.if-wrong_size.false)
    ∙ c.loop.invariant

pub returns-after-loop : goal.returns-after-loop
returns-after-loop c = any_none _ _ (items-done _ _ (left_none _ _ _ _ c.loop-test.false)) ∙ c.loop.invariant
