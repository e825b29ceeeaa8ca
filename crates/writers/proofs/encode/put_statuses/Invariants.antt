use Rattle.std.proofs.Common.{◌≡◌, ◌+◌, length, drop}
use lib.Seq.{sets}
use Rattle.extension.specs.Encode.{sum, status_list, statuses_bytes}
use Rattle.writers.proofs.encode.put_statuses.Given as goal

abbrev pub invariant-loop-id : goal.invariant-loop-id
invariant-loop-id l = let ids = l.id-iterator.a.a.rest.now in
    let codes = l.id-iterator.a.b.rest.now in
    let sizes = l.id-iterator.b.rest.now in
    (length codes ≡ length ids) × (length sizes ≡ length ids) × (l.p + sum sizes ≡ length l.raw) ×
    (sets l.out l.k (statuses_bytes (status_list ids codes sizes (drop l.p l.raw))) ≡ sets l.initial.out l.at (statuses_bytes (status_list l.ids l.codes l.sizes l.raw)))
