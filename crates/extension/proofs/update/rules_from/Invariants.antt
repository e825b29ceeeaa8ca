use mathlib.Core.Path.{◌≡◌}
use mathlib.Core.Bool.{◌||◌}
use Prim.Native.Nat.{◌-◌}
use lib.Dec.{eqb}
use Rattle.extension.specs.Section.{listing, items, closed, any}
use Rattle.extension.specs.Mandatory.{mandatory_rule}
use Rattle.extension.specs.Update.{read_rule}
use Rattle.extension.proofs.update.rules_from.Given as goal

abbrev pub invariant-loop : goal.invariant-loop
invariant-loop l = (closed l.count l.begin (listing (read_rule l.bytes) (l.count - l.counter) l.end) ≡ closed l.count l.begin (listing (read_rule l.bytes) l.count l.begin))
    × ((l.mandatory || any mandatory_rule (items (listing (read_rule l.bytes) (l.count - l.counter) l.end))) ≡ any mandatory_rule (items (listing (read_rule l.bytes) l.count l.begin)))
    × ((l.listed || any (eqb l.rule) (items (listing (read_rule l.bytes) (l.count - l.counter) l.end))) ≡ any (eqb l.rule) (items (listing (read_rule l.bytes) l.count l.begin)))
