use mathlib.Core.Path.{sym, ◌∙◌}
use native.Mathlib.Omega.{arith}
use Rattle.extension.proofs.Laws.Parameters.{taken-other, taken-four, taken-passed}
use Rattle.extension.proofs.parameters.take_field.Goals as goal

pub returns-in_default : goal.returns-in_default
returns-in_default c = taken-other _ _ _ _ (λ e. omega arith)

pub returns-in_default-2 : goal.returns-in_default-2
returns-in_default-2 c = taken-other _ _ _ _ (λ e. omega arith)

pub returns-then-parameter_key : goal.returns-then-parameter_key
returns-then-parameter_key c = taken-four _ _ _ _ (omega arith) (sym c.parameter_key.ensures ∙ c.if-parameter_key.true) _ c.number_in.ensures

pub returns-else-parameter_key : goal.returns-else-parameter_key
returns-else-parameter_key c = taken-passed _ _ _ _ (sym c.parameter_key.ensures ∙ c.if-parameter_key.false)
