use mathlib.Core.Path.{◌∙◌}
use native.Mathlib.Omega.{arith}
use Rattle.lent.proofs.Laws.Reader.{value-told, value-done, value-more}
use Rattle.lent.proofs.reader.value_at.Goals.{in_default-via-in-Ok+else-c-gt0, in_default-via-in_default}
use Rattle.lent.proofs.reader.value_at.Goals as goal

pub returns-in-Ok : goal.returns-in-Ok
returns-in-Ok c = c.field_value.ensures ∙ value-more _ _ _ c.in-Ok.is c.if-c-gt0.true

pub returns-in_default : goal.returns-in_default
returns-in_default c =
    elim c.in_default.branch [
      | in_default-via-in-Ok+else-c-gt0 w ↦ value-done _ _ _ w.in-Ok.is (omega arith)
      | in_default-via-in_default w ↦ value-told _ _ _ w.in_default.is
    ]
