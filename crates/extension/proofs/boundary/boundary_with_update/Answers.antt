use mathlib.Core.Path.{sym, ap, ◌∙◌}
use Rattle.std.specs.Prelude.{Ok}
use Rattle.voting.proofs.Laws.Tests.{early}
use Rattle.extension.proofs.Laws.Update.{update-refused, update-read, update-disables}
use Rattle.extension.proofs.Laws.Boundary.{update-stop, boundary-stop, boundary-pass}
use Rattle.extension.proofs.Examples.{examples}
use Rattle.extension.proofs.boundary.boundary_with_update.Goals as goal

pub returns-in_err-p : goal.returns-in_err-p
returns-in_err-p c = record {
  value = early _ c.from_residual.ensures.1
      ∙ update-stop _ _ _ _ _ _ _ (update-refused _ _ _ (sym c.in_err-p.was ∙ c.parse_proposed.ensures));
  examples = examples;
}

pub returns-in_err-b : goal.returns-in_err-b
returns-in_err-b c = let proposed = sym c.in_ok-p.was ∙ c.parse_proposed.ensures in record {
  value = early _ c.from_residual-in_err-b.ensures.1
      ∙ boundary-stop _ _ _ _ _ _ _ (update-read _ _ c.in_ok-p.p proposed) _ (update-disables _ _ c.in_ok-p.p proposed)
      _ (sym c.in_err-b.was ∙ c.boundary_parameters.ensures);
  examples = examples;
}

pub returns : goal.returns
returns c = let proposed = sym c.in_ok-p.was ∙ c.parse_proposed.ensures in record {
  value = ap Ok c.activates.ensures
      ∙ boundary-pass _ _ _ _ _ _ _ (update-read _ _ c.in_ok-p.p proposed) _ (update-disables _ _ c.in_ok-p.p proposed)
      _ (sym c.in_ok-b.was ∙ c.boundary_parameters.ensures);
  examples = examples;
}
