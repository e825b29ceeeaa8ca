-- The slots of the fields hold the entries of the map of parameters.
-- Assumes nothing.
use mathlib.Core.Path.{◌≡◌, refl, sym, ap, ◌∙◌}
use mathlib.Core.Bool.{true, false, cond, ◌&&◌, false≢true}
use mathlib.Core.List.{List, [], ◌∷◌}
use Prim.Native.Nat.{ℕ, ◌+◌, ◌-◌, ◌<◌}
use native.Mathlib.Omega.{arith}
use lib.Dec.{eqb, ltb, leb}
use lib.ListN.{length, get_or, set, length-set, length-replicate, get_or-replicate}
use lib.Seq.{get_or-set_same, get_or-set_other}
use borrow.Author.Tests.{not-false, ltb-true, ltb-false, leb-true, eqb-true, eqb-false, eq-eqb, ne_eqb, lt-ltb, le-ltb, le-leb, lt-leb}
use Rattle.codec.proofs.Laws.Lists.{all-elements}
use Rattle.voting.specs.Value.{Value}
use Rattle.std.specs.Prelude.{None}
use Rattle.voting.proofs.Laws.Tests.{by-test, neither}
use Rattle.extension.specs.declared.parameters.ParameterMap.{ParameterMap}
use Rattle.extension.specs.Section.{any}
use Rattle.extension.specs.Body.{Field, parameter_key, wrong_size, wrong_parameter}
use Rattle.extension.specs.Parameters.{no_parameters, entry_of, store, number_in, taken, parameters_in}
use Rattle.walk.specs.Walk.{table_in}
use Rattle.walk.specs.Fields.{slot_of, place_of, no_slots, slot_in, stored, slot_at, table_from}

-- the id of a place
abbrev id_at : ℕ → ℕ
id_at j = cond (ltb j 9) (j + 1) (j + 112)

id-small : (j : ℕ) → j < 12 → id_at j < 256
id-small j h = by-test (ltb j 9) (λ e. rw e (omega (arith, h))) (λ e. rw e (omega (arith, h)))

-- an id has a place where it is the id of that place
slot-there : (j : ℕ) → j < 12 → slot_of (id_at j) ≡ j
unfolding slot_of
slot-there j h =
    by-test (ltb j 9)
    (λ e.
    let l = ltb-true j 9 e in rw (e, le-ltb (j + 1) 1 (omega arith), le-leb (j + 1) 9 (omega arith)) (omega arith))
    (λ e.
    let l = ltb-false j 9 e in
    rw (e, le-ltb (j + 112) 1 (omega arith), lt-leb (j + 112) 9 (omega arith), le-ltb (j + 112) 121 (omega arith), le-ltb 123 (j + 112) (omega arith)) (omega arith))

slot-back : (id : ℕ) → slot_of id < 12 → id_at (slot_of id) ≡ id
unfolding slot_of
slot-back id =
    by-test (ltb id 1) (λ a. rw a (λ h. absurd (omega (arith, h)))) λ a.
    by-test (leb id 9) (λ b. rw (a, b) (λ h. rw (lt-ltb (id - 1) 9 (omega (arith, leb-true id 9 b))) (omega (arith, ltb-false id 1 a)))) λ b.
    by-test (ltb id 121) (λ c. rw (a, b, c) (λ h. absurd (omega (arith, h)))) λ c.
    by-test (ltb 123 id) (λ d. rw (a, b, c, d) (λ h. absurd (omega (arith, h)))) λ d.
    rw (a, b, c, d) (λ h. rw (le-ltb (id - 112) 9 (omega (arith, ltb-false id 121 c))) (omega (arith, ltb-false id 121 c)))

-- a field of another kind has no place
no_place : (a b : ℕ) → parameter_key a b ≡ false → place_of a b ≡ 12
unfolding place_of parameter_key slot_of
no_place a b =
    by-test (eqb a 0) (λ t. rw t (λ q. ap slot_of (eqb-true b 124 (not-false (eqb b 124) q)))) (λ t. rw t (λ q. refl))

has-place : (a b : ℕ) → parameter_key a b ≡ true → place_of a b ≡ slot_of b
unfolding place_of parameter_key
has-place a b = by-test (eqb a 0) (λ t. rw t (λ q. refl)) (λ t. rw t (λ q. absurd (false≢true q)))

-- the map after a store
module _ (m : ParameterMap) (id : ℕ) (v : Value) where
  entry-same : id < length m.entries → entry_of (store m id v) id ≡ v
  unfolding entry_of
  entry-same h = get_or-set_same m.entries id v None h

  entry_other : (k : ℕ) → (k ≡ id → ⊥) → entry_of (store m id v) k ≡ entry_of m k
  unfolding entry_of
  entry_other k d = get_or-set_other m.entries id k v None d

-- the first twelve slots hold the entries of the table's ids; the last one is for all other fields
pub record Holds (slots : List Value) (m : ParameterMap) : Type 0 where
  pub thirteen : length slots ≡ 13
  pub each-byte : length m.entries ≡ 256
  pub same : (j : ℕ) → j < 12 → slot_at slots j ≡ entry_of m (id_at j)

pub holds-none : Holds no_slots no_parameters
unfolding no_parameters entry_of
holds-none =
    record {
      thirteen = length-replicate {A = Value} 13 None;
      each-byte = length-replicate {A = Value} 256 None;
      same =
          λ j h.
          get_or-replicate {A = Value} 13 j None None (omega arith)
          ∙ sym (get_or-replicate {A = Value} 256 (id_at j) None None (id-small j h));
    }

-- a store at a place, where the map changes at the id of that place alone
module _ (slots : List Value) (m n : ParameterMap) (w : Holds slots m) (sized : length n.entries ≡ 256) (k : ℕ) (x : Value)
    (here : k < 12 → x ≡ entry_of n (id_at k)) (other : (j : ℕ) → j < 12 → (j ≡ k → ⊥) → entry_of n (id_at j) ≡ entry_of m (id_at j)) where
  same_after : (j : ℕ) → j < 12 → slot_at (set slots k x) j ≡ entry_of n (id_at j)
  same_after j h =
      by-test (eqb j k)
      (λ t.
      let e = eqb-true j k t in
      ap (λ (i : ℕ). slot_at (set slots i x) j) (sym e)
      ∙ get_or-set_same slots j x None (omega (arith, w.thirteen))
      ∙ here (omega arith)
      ∙ ap (λ (i : ℕ). entry_of n (id_at i)) (sym e))
      (λ t.
      let d = eqb-false j k t in
      get_or-set_other slots k j x None d ∙ w.same j h ∙ sym (other j h d))

  holds_after : Holds (set slots k x) n
  holds_after = record { thirteen = length-set slots k x ∙ w.thirteen; each-byte = sized; same = same_after }

taken-size : (f : Field) (m : ParameterMap) → length (taken f m).entries ≡ length m.entries
unfolding taken
taken-size f m =
    by-test (parameter_key f.key0 f.key1 && eqb (length f.value) 4)
    (λ t. rw t (length-set m.entries f.key1 (number_in f.value)))
    (λ t. rw t)

-- one field, and all fields, none of them of a wrong size
module _ (slots : List Value) (m : ParameterMap) (w : Holds slots m) (f : Field) where
  abbrev After : ParameterMap → Type 0
  After n = Holds (set slots (place_of f.key0 f.key1) (slot_in f.value)) n

  field-passed : parameter_key f.key0 f.key1 ≡ false → After m
  field-passed p =
      rw (no_place f.key0 f.key1 p)
      (holds_after slots m m w w.each-byte 12 (slot_in f.value) (λ h. absurd (omega (arith, h))) (λ j h d. refl))

  field_stored : parameter_key f.key0 f.key1 ≡ true → eqb (length f.value) 4 ≡ true → After (store m f.key1 (number_in f.value))
  unfolding slot_in
  field_stored p l =
      let id = f.key1 in
      let v = number_in f.value in
      let n = store m id v in
      rw (has-place f.key0 id p, l)
      (holds_after slots m n w (length-set m.entries id v ∙ w.each-byte) (slot_of id) v
      (λ h. sym (ap (entry_of n) (slot-back id h) ∙ entry-same m id v (omega (arith, id-small (slot_of id) h, slot-back id h, w.each-byte))))
      (λ j h d. entry_other m id v (id_at j) (λ z. d (sym (slot-there j h) ∙ ap slot_of z))))

  holds-field : wrong_parameter f ≡ false → After (taken f m)
  unfolding taken wrong_parameter wrong_size
  holds-field =
      by-test (parameter_key f.key0 f.key1)
      (λ p. rw p (λ q. let l = not-false (eqb (length f.value) 4) q in rw l (field_stored p l)))
      (λ p. rw p (λ q. field-passed p))

pub holds-stored : (fs : List Field) (slots : List Value) (m : ParameterMap) → Holds slots m → any wrong_parameter fs ≡ false → Holds (stored fs slots) (parameters_in fs m)
unfolding stored parameters_in any
holds-stored [] slots m w q = w
holds-stored (f ∷ fs) slots m w q =
    let r = neither (wrong_parameter f) (any wrong_parameter fs) q in holds-stored fs _ (taken f m) (holds-field slots m w f r.0) r.1

pub table-holds : (slots : List Value) (m : ParameterMap) → Holds slots m → table_from slots ≡ table_in m
unfolding table_from table_in
table-holds slots m w =
    let e : (j : ℕ) → j < 12 → slot_at slots j ≡ entry_of m (id_at j) = w.same in
    rw (
      e 0 (omega arith),
      e 1 (omega arith),
      e 2 (omega arith),
      e 3 (omega arith),
      e 4 (omega arith),
      e 5 (omega arith),
      e 6 (omega arith),
      e 7 (omega arith),
      e 8 (omega arith),
      e 9 (omega arith),
      e 10 (omega arith),
      e 11 (omega arith),
    )

-- a value
module _ (v : List ℕ) where
  pub slot-other : (length v ≡ 4 → ⊥) → None ≡ slot_in v
  unfolding slot_in
  slot-other d = rw (ne_eqb _ _ d)

  pub slot-four : length v ≡ 4 → (x : Value) → x ≡ number_in (get_or v 0 0 ∷ get_or v 1 0 ∷ get_or v 2 0 ∷ get_or v 3 0 ∷ []) → x ≡ slot_in v
  unfolding slot_in
  slot-four l x q = rw (eq-eqb _ _ l) (q ∙ ap number_in (all-elements 4 v l))
