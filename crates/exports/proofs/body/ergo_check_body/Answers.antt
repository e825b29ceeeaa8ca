use Rattle.exports.proofs.body.ergo_check_body.Goals as goal

pub returns : goal.returns
returns c = rw (c.number_of.ensures, c.check_body.ensures)
