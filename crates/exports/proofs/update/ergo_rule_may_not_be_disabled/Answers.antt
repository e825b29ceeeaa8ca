use mir.Val.{SFits}
use mir.Syntax.{w32}
use mir.ValLaws.{to_z-of_z}
use borrow.Author.Rules.{rules}
use Rattle.exports.proofs.update.ergo_rule_may_not_be_disabled.Goals as goal

pub returns : goal.returns
returns c = let s = c.args in
    let f : SFits w32 s.id = search rules in
    rw (c.flag_of.ensures, c.rule_may_not_be_disabled.ensures, to_z-of_z w32 s.id f)
