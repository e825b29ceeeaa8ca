use Rattle.support.proofs.Laws.Calls.{entered-none, entered-is}
use Rattle.support.proofs.window.enter.Goals as goal

pub returns-then-no_votes-all_zero : goal.returns-then-no_votes-all_zero
returns-then-no_votes-all_zero c = entered-none _ _ _ _ _ c.no_votes.ensures c.all_zero.ensures c.if-no_votes-all_zero.true

pub returns : goal.returns
returns c = entered-is _ _ _ _ _ _ c.replace.ensures c.replace-2.ensures c.replace-3.ensures
