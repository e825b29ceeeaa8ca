use Rattle.std.proofs.Common.{◌≡◌, ℕ, ◌+◌, ◌*◌, ◌<◌, get_or, drop}
use Rattle.std.proofs.lemmas.List.Edits.{sets}
use Rattle.std.specs.Prelude.{None}
use Rattle.wire.specs.Put.{Back}
use Rattle.wire.specs.Values.{value_at, value_bytes, slots_bytes}
use Rattle.wire.proofs.values.put_slots.Given as goal

abbrev pub invariant-loop-i : goal.invariant-loop-i
invariant-loop-i l = record {
  put : sets l.out (l.at + 5 * l.i) (slots_bytes (drop l.i l.s-items)) ≡ sets l.initial.out l.at (slots_bytes l.s-items);
  back : (j : ℕ) → j < l.i → Back value_at (value_bytes (get_or l.s-items j None)) (get_or l.s-items j None);
}
