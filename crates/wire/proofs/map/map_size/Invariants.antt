use Rattle.std.proofs.Common.{◌≡◌, ◌+◌, ◌-◌, ◌*◌, ◌≤◌, length}
use Rattle.wire.specs.Map.{present_from, map_bytes}
use Rattle.wire.proofs.map.map_size.Given as goal

abbrev pub invariant-loop-id : goal.invariant-loop-id
invariant-loop-id l = (l.n ≤ 5 * l.id) × (l.n + length (present_from (256 - l.id) l.id l.m) ≡ length (map_bytes l.m))
