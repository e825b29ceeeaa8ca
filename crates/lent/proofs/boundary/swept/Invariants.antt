use mathlib.Core.Path.{◌≡◌}
use lib.ListN.{drop}
use Rattle.voting.specs.Sweep.{begin_sweep, sweep_entries}
use Rattle.lent.proofs.boundary.swept.Given as goal

abbrev pub invariant-loop-e : goal.invariant-loop-e
invariant-loop-e l = sweep_entries l.config l.table l.sweep (drop l.e-index l.tally) ≡ sweep_entries l.config l.table (begin_sweep l.table) l.tally
