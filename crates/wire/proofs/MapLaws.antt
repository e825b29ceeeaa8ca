-- The parameters of a body in bytes: the bytes of each id, one after another; entries read, one after another; and what was written, read back.
-- Assumes nothing.
use mathlib.Core.Path.{◌≡◌, refl, ap, ◌∙◌, subst}
use mathlib.Core.List.{List, [], ◌∷◌, ◌++◌}
use Prim.Native.Nat.{ℕ, zero, suc, ◌+◌, ◌-◌, ◌≤◌, ◌<◌}
use native.Mathlib.Nat.{add-zero}
use native.Mathlib.Omega.{arith}
use mir.Syntax.{w32}
use mir.Val.{SFits, of_z, to_z}
use mir.ValLaws.{to_z-of_z}
use borrow.Author.Tests.{eqb-true, eqb-false}
use lib.Dec.{eqb}
use lib.IntN.{ℤ}
use lib.ListN.{length, get_or, length-append, length-set}
use lib.Seq.{sets}
use Rattle.codec.specs.BigEndian.{big_endian_bytes}
use Rattle.codec.specs.Signed.{bits_of}
use Rattle.codec.proofs.Laws.BigEndian.{number-back}
use Rattle.codec.proofs.Laws.Output as output
use Rattle.voting.specs.Value.{Value}
use Rattle.std.specs.Prelude.{None, Some}
use Rattle.voting.proofs.Laws.Tests.{by-test}
use Rattle.extension.specs.declared.parameters.ParameterMap.{ParameterMap}
use Rattle.extension.specs.Parameters.{no_parameters, entry_of, store, number_in}
use Rattle.extension.proofs.Laws.Parameters.{store_same, store_other, no-entry, no_length}
use Rattle.extension.proofs.Laws.PackTrip.{Held, Sound}
use Rattle.wire.specs.Numbers.{number_bytes}
use Rattle.wire.specs.Values.{marked}
use Rattle.wire.specs.Map.{present_bytes, present_from, map_bytes, map_in, map_of, MapBack}

-- the bytes of one id
module _ (id : ℕ) where
  pub present-none : (v : Value) → v ≡ None → present_bytes id v ≡ []
  unfolding present_bytes
  present-none v e = rw e

  pub present-five : (v : Value) (x : ℤ) → v ≡ Some x → 5 ≡ length (present_bytes id v)
  unfolding present_bytes marked number_bytes big_endian_bytes
  present-five v x e = rw e

  -- the four bytes b of the number, stored one by one
  pub present-stored : (v : Value) (x : ℤ) → SFits w32 x → v ≡ Some x → {b : List ℕ} → b ≡ big_endian_bytes 4 (bits_of 32 (to_z w32 (of_z w32 x))) → (cells : List ℕ) (at : ℕ)
      → sets cells at (id ∷ get_or b 0 0 ∷ get_or b 1 0 ∷ get_or b 2 0 ∷ get_or b 3 0 ∷ []) ≡ sets cells at (present_bytes id v)
  unfolding present_bytes marked number_bytes big_endian_bytes
  present-stored v x f e {b} p cells at =
      let is_b : b ≡ big_endian_bytes 4 (bits_of 32 x) = p ∙ ap (λ (z : ℤ). big_endian_bytes 4 (bits_of 32 z)) (to_z-of_z w32 x f) in
      rw (is_b, e)

  pub present-most : (v : Value) → length (present_bytes id v) ≤ 5
  unfolding present_bytes marked number_bytes big_endian_bytes
  present-most None = omega arith
  present-most (Some x) = omega arith

-- the ids from one on: none, or one and then the others
module _ (m : ParameterMap) (id : ℕ) where
  from-none : 256 ≤ id → present_from (256 - id) id m ≡ []
  unfolding present_from
  from-none h = let e : 256 - id ≡ 0 = omega arith in rw e

  pub size_none : 256 ≤ id → (n : ℕ) → n + length (present_from (256 - id) id m) ≡ n
  size_none h n = rw (from-none h) (add-zero n)

  pub put-none : 256 ≤ id → (cells : List ℕ) (at : ℕ) → sets cells at (present_from (256 - id) id m) ≡ cells
  put-none h cells at = rw (from-none h)

  module _ (h : id < 256) where
    from_one : present_from (256 - id) id m ≡ present_bytes id (entry_of m id) ++ present_from (256 - (id + 1)) (id + 1) m
    unfolding present_from
    from_one = let e : 256 - id ≡ suc (256 - (id + 1)) = omega arith in rw e

    module _ {v : Value} {r : ℕ} (is-v : v ≡ entry_of m id) (is-r : r ≡ length (present_bytes id v)) where
      pub size-one : (n : ℕ) → n + r + length (present_from (256 - (id + 1)) (id + 1) m) ≡ n + length (present_from (256 - id) id m)
      size-one n =
          rw (from_one, length-append (present_bytes id (entry_of m id)) (present_from (256 - (id + 1)) (id + 1) m), ← is-v, ← is-r) (omega arith)

      pub put_one : (cells : List ℕ) (at : ℕ) {after : List ℕ} → after ≡ sets cells at (present_bytes id v)
          → sets after (at + r) (present_from (256 - (id + 1)) (id + 1) m) ≡ sets cells at (present_from (256 - id) id m)
      put_one cells at q =
          rw (from_one, output.sets-append (present_bytes id (entry_of m id)) (present_from (256 - (id + 1)) (id + 1) m) cells at, ← is-v, ← is-r, ← q)

-- the entries read: none of less than five bytes; one and then the others
pub in-none : (m : ParameterMap) (bytes : List ℕ) → length bytes < 5 → map_in bytes m ≡ m
unfolding map_in
in-none m [] h = refl
in-none m (a ∷ []) h = refl
in-none m (a ∷ b ∷ []) h = refl
in-none m (a ∷ b ∷ c ∷ []) h = refl
in-none m (a ∷ b ∷ c ∷ d ∷ []) h = refl
in-none m (a ∷ b ∷ c ∷ d ∷ e ∷ s) h = absurd (omega arith)

pub in_one : (m : ParameterMap) (entry bytes : List ℕ) → length entry ≡ 5 → {all : List ℕ} → all ≡ entry ++ bytes → {next : ParameterMap} {v : Value} → next ≡ store m (get_or entry 0 0) v
    → v ≡ number_in (get_or entry 1 0 ∷ get_or entry 2 0 ∷ get_or entry 3 0 ∷ get_or entry 4 0 ∷ []) → map_in bytes next ≡ map_in all m
unfolding map_in
in_one m [] bytes l p q e = absurd (omega arith)
in_one m (a ∷ []) bytes l p q e = absurd (omega arith)
in_one m (a ∷ b ∷ []) bytes l p q e = absurd (omega arith)
in_one m (a ∷ b ∷ c ∷ []) bytes l p q e = absurd (omega arith)
in_one m (a ∷ b ∷ c ∷ d ∷ []) bytes l p q e = absurd (omega arith)
in_one m (id ∷ a ∷ b ∷ c ∷ d ∷ []) bytes l p q e = rw (p, q, e)
in_one m (a ∷ b ∷ c ∷ d ∷ e ∷ x ∷ s) bytes l p q f = absurd (omega arith)

-- the entries after the bytes of one id were read
abbrev stored : ℕ → Value → ParameterMap → ParameterMap
stored id None m = m
stored id (Some z) m = store m id (Some z)

one_in : (id : ℕ) (z : ℤ) (rest : List ℕ) (m : ParameterMap)
    → map_in (present_bytes id (Some z) ++ rest) m ≡ map_in rest (store m id (number_in (big_endian_bytes 4 (bits_of 32 z))))
unfolding map_in present_bytes marked number_bytes big_endian_bytes
one_in id z rest m = refl

number-in : (z : ℤ) → SFits w32 z → number_in (big_endian_bytes 4 (bits_of 32 z)) ≡ Some z
unfolding number_in
number-in z f = ap Some (number-back z f)

present-in : (id : ℕ) (v : Value) (rest : List ℕ) (m : ParameterMap) → Held v → map_in (present_bytes id v ++ rest) m ≡ map_in rest (stored id v m)
present-in id None rest m f = ap (λ (s : List ℕ). map_in (s ++ rest) m) (present-none id None refl)
present-in id (Some z) rest m f = one_in id z rest m ∙ ap (λ (v : Value). map_in rest (store m id v)) (number-in z f)

stored-length : (id : ℕ) (v : Value) (m : ParameterMap) → length (stored id v m).entries ≡ length m.entries
stored-length id None m = refl
stored-length id (Some z) m = length-set m.entries id (Some z)

stored_other : (id at : ℕ) (v : Value) (m : ParameterMap) → (at ≡ id → ⊥) → entry_of (stored id v m) at ≡ entry_of m at
stored_other id at None m n = refl
stored_other id at (Some z) m n = store_other m id at (Some z) n

stored_same : (id : ℕ) (v : Value) (m : ParameterMap) → id < length m.entries → entry_of m id ≡ None → entry_of (stored id v m) id ≡ v
stored_same id None m h e = e
stored_same id (Some z) m h e = store_same m id (Some z) h

-- an id below the n ids from one on keeps its entry; one among them gets the entry that was written
module _ (m : ParameterMap) (held : Sound m) (id : ℕ) where
  passed : (n from : ℕ) (a : ParameterMap) → id < from → entry_of (map_in (present_from n from m) a) id ≡ entry_of a id
  unfolding present_from map_in
  passed zero from a h = refl
  passed (suc n) from a h =
      ap (λ (x : ParameterMap). entry_of x id) (present-in from (entry_of m from) (present_from n (from + 1) m) a (held from)) ∙
      passed n (from + 1) (stored from (entry_of m from) a) (omega arith) ∙
      stored_other from id (entry_of m from) a (λ e. omega arith)

  reached : (n from : ℕ) (a : ParameterMap) → from ≤ id → id < from + n → id < length a.entries → entry_of a id ≡ None
      → entry_of (map_in (present_from n from m) a) id ≡ entry_of m id
  unfolding present_from
  reached zero from a f h l e = absurd (omega arith)
  reached (suc n) from a f h l e =
      let next = stored from (entry_of m from) a in
      ap (λ (x : ParameterMap). entry_of x id) (present-in from (entry_of m from) (present_from n (from + 1) m) a (held from)) ∙
      by-test (eqb id from)
      (λ t. let q : id ≡ from = eqb-true id from t in
      passed n (from + 1) next (omega arith) ∙
      subst (λ (k : ℕ). entry_of (stored k (entry_of m k) a) id ≡ entry_of m id) q (stored_same id (entry_of m id) a l e))
      (λ t. let q = eqb-false id from t in
      reached n (from + 1) next (omega arith) (omega arith) (omega (arith, stored-length from (entry_of m from) a)) (stored_other from id (entry_of m from) a q ∙ e))

pub map_back : (m : ParameterMap) → Sound m → MapBack m
unfolding map_of map_bytes
map_back m held id h = reached m held id 256 0 no_parameters (omega arith) (omega arith) (omega (arith, no_length)) (no-entry id (omega arith))
