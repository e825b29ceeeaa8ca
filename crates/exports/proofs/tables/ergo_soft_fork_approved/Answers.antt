use mir.Val.{SFits}
use mir.Syntax.{w32}
use mir.ValLaws.{to_z-of_z}
use borrow.Author.Rules.{rules}
use Rattle.exports.proofs.tables.ergo_soft_fork_approved.Goals as goal

pub returns : goal.returns
returns c = let s = c.args in
    let f : SFits w32 s.votes = search rules in
    rw (c.flag_of.ensures, c.soft_fork_approved.ensures, to_z-of_z w32 s.votes f, c.settings_of-g.ensures)
