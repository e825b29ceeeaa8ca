use mathlib.Core.Path.{sym, ◌∙◌}
use Rattle.voting.proofs.Laws.Tests.{early}
use Rattle.extension.proofs.Laws.Body.{check-refused, check-wrong, check-right}
use Rattle.extension.proofs.body.check_body.Goals as goal

pub returns-in_err-fields : goal.returns-in_err-fields
returns-in_err-fields c = early _ c.from_residual.ensures.1 ∙ check-refused _ _ (sym c.in_err-fields.was ∙ c.parse_extension_bytes.ensures.value)

pub returns-then-any_wrong_size : goal.returns-then-any_wrong_size
returns-then-any_wrong_size c = check-wrong _ _ (sym c.in_ok-fields.was ∙ c.parse_extension_bytes.ensures.value) _ c.any_wrong_size.ensures c.if-any_wrong_size.true

pub returns : goal.returns
returns c = check-right _ _ (sym c.in_ok-fields.was ∙ c.parse_extension_bytes.ensures.value) _ c.any_wrong_size.ensures c.if-any_wrong_size.false
