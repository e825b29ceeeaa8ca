use Rattle.std.proofs.Common.{ℤ, ap, w32}
use mir.ValLaws.{to_z-of_z}
use Rattle.std.specs.Prelude.{Some}
use Rattle.voting.proofs.fork.stored.Goals as goal

pub returns-then-voting : goal.returns-then-voting
returns-then-voting c = rw c.if-voting.true (ap (λ (y : ℤ). Some y) (to_z-of_z w32 c.args.total c.ranges.total))
