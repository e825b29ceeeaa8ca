use Rattle.exports.proofs.votes.ergo_check_fork_vote.Goals as goal

pub returns : goal.returns
returns c = rw (c.number_of.ensures, c.check_fork_vote.ensures, c.table_of-t.ensures, c.votes_of-three.ensures, c.settings_of-config.ensures)
