use Rattle.std.proofs.Common.{◌≡◌, ◌-◌, ◌*◌, ◌≤◌}
use Rattle.std.proofs.lemmas.List.Edits.{sets}
use Rattle.wire.specs.Map.{present_from, map_bytes}
use Rattle.wire.proofs.map.put_map.Given as goal

abbrev pub invariant-loop-id : goal.invariant-loop-id
invariant-loop-id l = (l.at ≤ 5 * l.id) × (sets l.out l.at (present_from (256 - l.id) l.id l.m) ≡ sets l.initial.out 0 (map_bytes l.m))
