use mathlib.Core.Path.{sym, ◌∙◌}
use native.Mathlib.Omega.{arith}
use Rattle.counting.proofs.Laws.Count.{count_none}
use Rattle.archive.proofs.Laws.ForkVotes.{quiet-forks, open-forks}
use Rattle.archive.specs.ForkVotes.{check_fork_votes}
use Rattle.archive.proofs.fork_votes.check_fork_votes.Goals as goal

pub returns-then-votes_open : goal.returns-then-votes_open
unfolding check_fork_votes
returns-then-votes_open c = open-forks _ _ _ (sym c.votes_open.ensures ∙ c.if-votes_open.true) _ _ (omega arith)

pub returns : goal.returns
unfolding check_fork_votes
returns c = quiet-forks _ _ (sym c.settings_large.ensures ∙ c.if-settings_large.false) _ _ (count_none _ _ c.any_fork_vote.ensures c.if-any_fork_vote.false)
