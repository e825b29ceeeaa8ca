use mathlib.Core.Path.{◌∙◌}
use Rattle.voting.proofs.Laws.Tests.{early}
use Rattle.archive.proofs.Laws.Replay.{early-low, parts-early, parts-body, parts-boundary, parts-pass}
use Rattle.archive.proofs.replay.on_parts.Goals as goal

pub returns-in_err-check_early : goal.returns-in_err-check_early
returns-in_err-check_early c = early _ c.from_residual.ensures.1 ∙ parts-early _ _ _ _ c.in_err-check_early.ensures

pub returns-in_err-w : goal.returns-in_err-w
returns-in_err-w c = early _ c.from_residual-in_err-w.ensures.1 ∙ parts-body _ _ _ _ c.in_ok-check_early.ensures _ c.walk_body-w.ensures c.in_err-w.was

pub returns-in_err-b : goal.returns-in_err-b
returns-in_err-b c = early _ c.from_residual-in_err-b.ensures.1
    ∙ parts-boundary _ _ _ _ c.in_ok-check_early.ensures _ c.walk_body-w.ensures c.in_ok-w.was _ c.boundary_votes.ensures c.in_err-b.ensures.value

pub after_match-requires : goal.after_match-requires
after_match-requires c = (early-low _ _ _ c.in_ok-check_early.ensures, c.requires)

pub returns : goal.returns
returns c = c.after_match.ensures
    ∙ parts-pass _ _ _ _ c.in_ok-check_early.ensures _ c.walk_body-w.ensures c.in_ok-w.was _ c.boundary_votes.ensures c.in_ok-b.ensures.value c.match_found.ensures
