use Prim.Native.Nat.{◌-◌}
use lib.ListN.{length}
use Rattle.legal.proofs.Laws.Listing.{Filling}
use Rattle.legal.proofs.listing.fill.Given as goal

abbrev pub invariant-loop-n : goal.invariant-loop-n
invariant-loop-n l = Filling l.initial.out l.initial.n l.out l.n l.wrote

abbrev pub decreases-loop-n : goal.decreases-loop-n
decreases-loop-n l = length l.out - l.wrote
