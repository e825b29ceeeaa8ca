use Rattle.std.proofs.Common.{◌≡◌}
use Rattle.wire.specs.Map.{map_in}
use Rattle.wire.proofs.map.map_of.Given as goal

abbrev pub invariant-loop-entry : goal.invariant-loop-entry
invariant-loop-entry l = record {
  size : l.entry-iterator.size ≡ 5;
  left : map_in l.entry-iterator.rest.now l.m ≡ map_in l.bytes l.initial.m;
}
