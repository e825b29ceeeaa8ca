use Rattle.exports.proofs.boundary.ergo_check_block_version.Goals as goal

pub returns : goal.returns
returns c = rw (c.number_of.ensures, c.check_block_version.ensures, c.table_of.ensures)
