use Rattle.std.proofs.Common.{◌<◌, length, ◌∙◌, arith}
use Rattle.voting.proofs.Laws.Tests.{early}
use Rattle.headers.specs.Headers.{check_headers}
use Rattle.headers.proofs.Laws.Headers.{checks-none, check-stop, check-pass}
use Rattle.headers.proofs.first_illegal.Goals as goal

pub returns-in_err-check_header_votes : goal.returns-in_err-check_header_votes
unfolding check_headers
returns-in_err-check_header_votes c = let l = c.loop-h in
    let steps = c.in-Some.ensures.steps in
    early _ c.from_residual.ensures.1 ∙ check-stop _ _ (steps.1.1 ∙ l.invariant.size) steps.1.0 c.check_header_votes.ensures c.in_err-check_header_votes.was ∙ l.invariant.left

pub loop-h-preserved : goal.loop-h-preserved
loop-h-preserved c = let l = c.loop-h in
    let steps = c.in-Some.ensures.steps in
    record {
      size = steps.0 ∙ l.invariant.size;
      left = check-pass _ _ (steps.1.1 ∙ l.invariant.size) steps.1.0 c.check_header_votes.ensures c.in_ok-check_header_votes.was ∙ l.invariant.left;
    }

pub returns : goal.returns
unfolding check_headers
returns c = let l = c.loop-h in
    let short : length l.h-iterator.rest.now < 3 = omega (arith, c.in-None.ensures.steps.1.0, l.invariant.size) in
    checks-none _ short ∙ l.invariant.left
