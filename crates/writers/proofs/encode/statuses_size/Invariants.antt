use Rattle.std.proofs.Common.{◌≡◌, ◌+◌, ◌*◌, ◌≤◌, length}
use Rattle.writers.specs.Encode.{statuses_size}
use Rattle.writers.proofs.encode.statuses_size.Given as goal

abbrev pub invariant-loop-id : goal.invariant-loop-id
invariant-loop-id l = let left = l.id-iterator.a.rest.now in
    (l.n + 4294967317 * length left ≤ 4294967317 * length l.ids) × (l.n + statuses_size left l.id-iterator.b.rest.now ≡ statuses_size l.ids l.sizes)
