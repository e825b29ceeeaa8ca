use Rattle.archive.proofs.fork_votes.any_fork_vote.Goals as goal

pub returns : goal.returns
returns c = rw c.times_in.ensures
