use Rattle.std.proofs.Common.{◌≡◌, eqb, drop}
use Rattle.extension.specs.Encode.{sum}
use Rattle.writers.proofs.sizes.sum_is.Given as goal

abbrev pub invariant-loop-size : goal.invariant-loop-size
invariant-loop-size l = eqb (sum (drop l.size-index l.sizes)) l.left ≡ eqb (sum l.sizes) l.n
