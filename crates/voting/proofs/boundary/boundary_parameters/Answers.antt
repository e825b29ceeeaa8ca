use Rattle.voting.specs.Tally.{entries}
use Rattle.voting.proofs.Laws.Sweep.{sweep-places, swept_all}
use Rattle.voting.specs.Sweep.{finish_sweep}
use Rattle.std.proofs.Common.{ap, ◌∙◌}
use Rattle.voting.proofs.boundary.boundary_parameters.Goals as goal

pub returns : goal.returns
returns c = let a = c.args in
    c.finish.ensures
    ∙ ap (finish_sweep a.config a.height a.table a.vote a.disables) (sweep-places a.config a.table a.tally _ _ _ _ c.place-first.ensures c.place-second.ensures c.place-third.ensures ∙ rw c.begin.ensures)
    ∙ swept_all a.config a.table a.height (entries a.tally) a.vote a.disables
