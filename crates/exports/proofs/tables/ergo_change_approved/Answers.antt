use Rattle.exports.proofs.tables.ergo_change_approved.Goals as goal

pub returns : goal.returns
returns c = rw (c.flag_of.ensures, c.change_approved.ensures, c.settings_of-g.ensures)
