use Rattle.extension.specs.Parameters.{no_parameters, parameters_in}
use Rattle.extension.specs.Body.{read_field}
use Rattle.extension.specs.Section.{section_items, listing, items}
use mathlib.Core.Path.{◌≡◌}
use Prim.Native.Nat.{◌-◌}
use Rattle.extension.proofs.parameters.parameters_in.Given as goal

abbrev pub invariant-loop : goal.invariant-loop
invariant-loop l = parameters_in (items (listing (read_field l.body) (l.end - l.counter) l.at)) l.m ≡ parameters_in (section_items (read_field l.body) l.fn.fields) no_parameters
