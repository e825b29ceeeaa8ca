use Rattle.exports.proofs.votes.ergo_check_header_votes.Goals as goal

pub returns : goal.returns
returns c = rw (c.number_of.ensures, c.check_header_votes.ensures, c.votes_of.ensures)
