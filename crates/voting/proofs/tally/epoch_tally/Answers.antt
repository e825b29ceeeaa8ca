use Rattle.std.proofs.Common.{◌∙◌}
use Rattle.voting.proofs.Laws.Tally.{seeded-none, seeded-some}
use Rattle.voting.proofs.tally.epoch_tally.Goals as goal

pub returns-then-votes-lt3 : goal.returns-then-votes-lt3
returns-then-votes-lt3 c = c.no_tally.ensures ∙ seeded-none _ c.if-votes-lt3.true

pub returns : goal.returns
returns c = seeded-some c.args.votes.now c.if-votes-lt3.false c.slot_entry-first.ensures c.slot_entry-second.ensures c.slot_entry-third.ensures
