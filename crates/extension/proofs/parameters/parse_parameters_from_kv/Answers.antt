use mathlib.Core.Path.{sym, ◌∙◌}
use Rattle.voting.proofs.Laws.Tests.{early}
use Rattle.extension.proofs.Laws.Parameters.{parameters-refused, parameters-is}
use Rattle.extension.proofs.parameters.parse_parameters_from_kv.Goals as goal

pub returns-in_err-fields : goal.returns-in_err-fields
returns-in_err-fields c = early _ c.from_residual.ensures.1 ∙ parameters-refused _ _ (sym c.in_err-fields.was ∙ c.check_body.ensures)

pub returns : goal.returns
returns c = parameters-is _ _ (sym c.in_ok-fields.was ∙ c.check_body.ensures) _ c.parameters_in.ensures
