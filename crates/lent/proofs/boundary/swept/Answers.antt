use mathlib.Core.Path.{sym, ap, ◌∙◌}
use lib.ListN.{drop}
use Prim.Native.Nat.{◌+◌}
use Rattle.voting.specs.declared.boundary.Sweep.{Sweep}
use Rattle.voting.specs.Sweep.{sweep_entries}
use Rattle.voting.proofs.Laws.Sweep.{sweep-here, sweep-end}
use Rattle.lent.proofs.boundary.swept.Goals as goal

pub loop-e-preserved : goal.loop-e-preserved
loop-e-preserved c =
    let a = c.args in
    ap (λ (s : Sweep). sweep_entries a.config a.table s (drop (c.loop-e.e-index + 1) a.tally.now)) c.entry-sweep.ensures
    ∙ sym (sweep-here a.config a.table c.loop-e.sweep a.tally.now c.loop-e.e-index c.loop-e-test.true)
    ∙ c.loop-e.invariant

pub returns : goal.returns
returns c = sym (sweep-end _ _ _ _ _ c.loop-e-test.false) ∙ c.loop-e.invariant
