use mathlib.Core.Path.{◌∙◌}
use Rattle.voting.proofs.Laws.Tests.{early}
use Rattle.archive.proofs.Laws.Replay.{early-height, early-headers, early-boundary}
use Rattle.archive.proofs.replay.check_early.Goals as goal

pub returns-in_err-check_height : goal.returns-in_err-check_height
returns-in_err-check_height c = early _ c.from_residual.ensures.1 ∙ early-height _ _ _ c.in_err-check_height.ensures

pub returns-in_err-check_headers : goal.returns-in_err-check_headers
returns-in_err-check_headers c = early _ c.from_residual-in_err-check_headers.ensures.1 ∙ early-headers _ _ _ c.in_ok-check_height.ensures c.in_err-check_headers.ensures

pub returns : goal.returns
returns c = early-boundary _ _ _ c.in_ok-check_height.ensures c.in_ok-check_headers.ensures c.check_boundary.ensures
