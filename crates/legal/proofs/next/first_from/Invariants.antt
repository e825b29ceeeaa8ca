use mathlib.Core.Path.{◌≡◌}
use Prim.Native.Nat.{◌-◌}
use Rattle.legal.specs.Legal.{total}
use Rattle.legal.specs.Search.{legal_from}
use Rattle.legal.proofs.next.first_from.Given as goal

abbrev pub invariant-loop-m : goal.invariant-loop-m
invariant-loop-m l = legal_from l.m ≡ legal_from l.n

abbrev pub decreases-loop-m : goal.decreases-loop-m
decreases-loop-m l = total - l.m
