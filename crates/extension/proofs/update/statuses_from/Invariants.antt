use mathlib.Core.Path.{◌≡◌}
use Prim.Native.Nat.{◌-◌}
use Rattle.extension.specs.Section.{listing, closed}
use Rattle.extension.specs.Update.{read_status}
use Rattle.extension.proofs.update.statuses_from.Given as goal

abbrev pub invariant-loop : goal.invariant-loop
invariant-loop l = closed l.count l.begin (listing (read_status l.bytes) (l.count - l.counter) l.end) ≡ closed l.count l.begin (listing (read_status l.bytes) l.count l.begin)
