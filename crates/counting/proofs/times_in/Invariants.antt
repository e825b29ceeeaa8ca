use mathlib.Core.Path.{◌≡◌}
use Prim.Native.Nat.{◌+◌, ◌*◌, ◌≤◌}
use lib.Dec.{eqb}
use lib.ListN.{drop}
use Rattle.counting.specs.Count.{count}
use Rattle.counting.proofs.times_in.Given as goal

abbrev pub invariant-loop-k : goal.invariant-loop-k
invariant-loop-k l = (l.n ≤ 192 * l.k) × (l.n + count (eqb l.b) (drop (192 * l.k) l.bytes) ≡ count (eqb l.b) l.bytes)
