use Rattle.extension.specs.Body.{read_field, update_in}
use Rattle.extension.specs.Section.{section_items, listing, items}
use mathlib.Core.Path.{◌≡◌}
use Prim.Native.Nat.{◌-◌}
use Rattle.extension.proofs.body.find_update.Given as goal

abbrev pub invariant-loop : goal.invariant-loop
invariant-loop l = update_in (items (listing (read_field l.body) (l.end - l.counter) l.at)) ≡ update_in (section_items (read_field l.body) l.fn.fields)
