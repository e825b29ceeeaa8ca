use Rattle.std.proofs.Common.{◌∙◌}
use Rattle.support.proofs.Laws.Calls.{length-inside, length-outside, length-test}
use Rattle.support.proofs.window.check_new.Goals as goal

pub returns-then-contains : goal.returns-then-contains
returns-then-contains c = length-inside _ _ (length-test _ _ _ _ _ c.new.ensures.start (c.new.ensures.end ∙ c.from.ensures) c.new.ensures.exhausted c.contains.ensures.value ∙ c.if-contains.true) _ c.empty.ensures _ c.check_room.ensures

pub returns : goal.returns
returns c = length-outside _ _ (length-test _ _ _ _ _ c.new.ensures.start (c.new.ensures.end ∙ c.from.ensures) c.new.ensures.exhausted c.contains.ensures.value ∙ c.if-contains.false)
