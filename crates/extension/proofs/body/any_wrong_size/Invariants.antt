use Rattle.extension.specs.Body.{read_field, wrong_parameter}
use Rattle.extension.specs.Section.{section_items, listing, items, any}
use mathlib.Core.Path.{◌≡◌}
use Prim.Native.Nat.{◌-◌}
use Rattle.extension.proofs.body.any_wrong_size.Given as goal

abbrev pub invariant-loop : goal.invariant-loop
invariant-loop l = any wrong_parameter (items (listing (read_field l.body) (l.end - l.counter) l.at)) ≡ any wrong_parameter (section_items (read_field l.body) l.fn.fields)
