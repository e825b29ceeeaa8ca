use Rattle.std.proofs.Common.{arith}
use Rattle.voting.specs.ForkCheck.{check_fork_vote}
use Rattle.voting.specs.Table.{lookup}
use Rattle.voting.proofs.fork.check_fork_vote.Goals as goal

pub returns-in_err-settings : goal.returns-in_err-settings
unfolding check_fork_vote
returns-in_err-settings c = grind arith

pub returns-then-votes_for : goal.returns-then-votes_for
unfolding check_fork_vote lookup
returns-then-votes_for c = grind arith

pub returns : goal.returns
unfolding check_fork_vote
returns c = grind arith
