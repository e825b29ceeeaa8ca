use Rattle.walk.proofs.Laws.Slots.{slot-other, slot-four}
use Rattle.walk.proofs.slot_in.Goals as goal

pub returns-then-v-ne4 : goal.returns-then-v-ne4
returns-then-v-ne4 c = slot-other _ c.if-v-ne4.true

pub returns : goal.returns
returns c = slot-four _ c.if-v-ne4.false _ c.number_in.ensures
