use Rattle.std.proofs.Common.{◌∙◌}
use Rattle.voting.proofs.Laws.Tests.{early}
use Rattle.support.proofs.Laws.Calls.{header-stops, header-passes}
use Rattle.support.proofs.window.check_put.Goals as goal

pub returns-in_err-check_header : goal.returns-in_err-check_header
returns-in_err-check_header c = early _ c.from_residual.ensures.1 ∙ header-stops _ _ _ c.check_header.ensures c.in_err-check_header.was

pub returns : goal.returns
returns c = c.check_room.ensures ∙ header-passes _ _ _ c.check_header.ensures c.in_ok-check_header.was
