use Rattle.std.proofs.Common.{◌<◌, length, ◌∙◌, arith}
use Rattle.voting.proofs.Laws.Tests.{early}
use Rattle.archive.specs.ForkVotes.{check_fork_votes}
use Rattle.archive.proofs.Laws.ForkVotes.{forks-none, fork-stop, fork-pass, room-behind}
use Rattle.archive.proofs.fork_votes.first_barred.Goals as goal

pub returns-in_err-check_fork_vote : goal.returns-in_err-check_fork_vote
unfolding check_fork_votes
returns-in_err-check_fork_vote c = let l = c.loop-v in
    let steps = c.in-Some.ensures.steps in
    early _ c.from_residual.ensures.1 ∙ fork-stop _ _ _ _ _ (steps.1.1 ∙ l.invariant.size) steps.1.0 c.check_fork_vote.ensures c.in_err-check_fork_vote.was ∙ l.invariant.left

pub overflow_add-h : goal.overflow_add-h
overflow_add-h c = let l = c.loop-v in
    let steps = c.in-Some.ensures.steps in
    let room = room-behind _ _ _ _ (steps.1.1 ∙ l.invariant.size) steps.1.0 l.invariant.room in
    omega (arith, room)

pub loop-v-preserved : goal.loop-v-preserved
loop-v-preserved c = let l = c.loop-v in
    let steps = c.in-Some.ensures.steps in
    let three = steps.1.1 ∙ l.invariant.size in
    record {
      size = steps.0 ∙ l.invariant.size;
      room = room-behind _ _ _ _ three steps.1.0 l.invariant.room;
      left = fork-pass _ _ _ _ _ three steps.1.0 c.check_fork_vote.ensures c.in_ok-check_fork_vote.was ∙ l.invariant.left;
    }

pub returns : goal.returns
unfolding check_fork_votes
returns c = let l = c.loop-v in
    let short : length l.v-iterator.rest.now < 3 = omega (arith, c.in-None.ensures.steps.1.0, l.invariant.size) in
    forks-none _ _ _ _ short ∙ l.invariant.left
