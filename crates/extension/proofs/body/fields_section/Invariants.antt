use Rattle.extension.specs.Body.{read_field}
use Rattle.extension.specs.Section.{listing, closed}
use mathlib.Core.Path.{◌≡◌}
use Prim.Native.Nat.{◌-◌}
use Rattle.extension.proofs.body.fields_section.Given as goal

abbrev pub invariant-loop : goal.invariant-loop
invariant-loop l = closed l.count l.begin (listing (read_field l.body) (l.count - l.counter) l.end) ≡ closed l.count l.begin (listing (read_field l.body) l.count l.begin)
