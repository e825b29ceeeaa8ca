use mathlib.Core.Path.{◌∙◌}
use Rattle.voting.proofs.Laws.Tests.{early}
use Rattle.archive.proofs.Laws.Replay.{match-stop, others-stop, others-pass}
use Rattle.archive.proofs.replay.after_match.Goals as goal

pub returns-in_err-m : goal.returns-in_err-m
returns-in_err-m c = early _ c.from_residual.ensures.1 ∙ match-stop _ _ _ _ c.in_err-m.was

pub returns-in_err-check_others : goal.returns-in_err-check_others
returns-in_err-check_others c = early _ c.from_residual-in_err-check_others.ensures.1 ∙ others-stop _ _ _ _ c.in_ok-m.was c.in_err-check_others.ensures

pub returns : goal.returns
returns c = others-pass _ _ _ _ c.in_ok-m.was c.in_ok-check_others.ensures c.onward.ensures
