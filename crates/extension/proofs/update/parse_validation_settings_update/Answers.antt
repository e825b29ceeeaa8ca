use mathlib.Core.Path.{sym, ◌∙◌}
use Rattle.voting.proofs.Laws.Tests.{early}
use Rattle.extension.proofs.Laws.Update.{update-refused, update-read}
use Rattle.extension.proofs.Laws.EncodeTrip.{parsed-again}
use Rattle.extension.proofs.update.parse_validation_settings_update.Goals as goal

pub returns-in_err-proposed-clause-value : goal.returns-in_err-proposed-clause-value
returns-in_err-proposed-clause-value c = early _ c.from_residual.ensures.1 ∙ update-refused _ _ _ (sym c.in_err-proposed.was ∙ c.parse_proposed.ensures)

pub returns-clause-value : goal.returns-clause-value
returns-clause-value c = update-read _ _ c.in_ok-proposed.proposed (sym c.in_ok-proposed.was ∙ c.parse_proposed.ensures)

pub returns-clause-again : goal.returns-clause-again
returns-clause-again c = parsed-again _ _ (update-read _ _ c.in_ok-proposed.proposed (sym c.in_ok-proposed.was ∙ c.parse_proposed.ensures))
