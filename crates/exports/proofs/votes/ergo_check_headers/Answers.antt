use Rattle.exports.proofs.votes.ergo_check_headers.Goals as goal

pub returns : goal.returns
returns c = rw (c.number_of.ensures, c.check_headers.ensures)
