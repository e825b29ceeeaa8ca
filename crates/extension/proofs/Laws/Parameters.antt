-- Fields taken into the map of parameters, the entries of a map, and the search for the least difference.
-- Assumes nothing.
use mathlib.Core.Path.{◌≡◌, refl, sym, ap, ap₂, ◌∙◌}
use mathlib.Core.Bool.{Bool, true, false, not, cond, ◌&&◌}
use mathlib.Core.List.{List, [], ◌∷◌}
use Prim.Native.Nat.{ℕ, zero, suc, ◌+◌, ◌<◌, ◌≤◌}
use native.Mathlib.Numerals.{add-one}
use native.Mathlib.Omega.{arith}
use borrow.Author.Tests.{eq-eqb, ne_eqb, eqb-false}
use lib.Dec.{eqb}
use lib.ListN.{length, get_or, drop, drop_of_length-le, length-replicate, get_or-replicate}
use lib.Seq.{drop-cons, get_or-set_same, get_or-set_other}
use Rattle.std.specs.Prelude.{Ok, Err, None}
use Rattle.codec.specs.declared.refusal.Refusal.{Refusal}
use Rattle.codec.proofs.Laws.Lists.{all-elements}
use Rattle.voting.specs.Table.{lookup}
use Rattle.voting.specs.Value.{Value}
use Rattle.voting.specs.declared.table.Table.{Table}
use Rattle.extension.specs.declared.section.Section.{Section}
use Rattle.extension.specs.declared.parameters.ParameterMap.{ParameterMap}
use Rattle.voting.proofs.Laws.Tests.{neither}
use Rattle.extension.specs.Section.{section_items, any}
use Rattle.extension.specs.Body.{Field, read_field, parameter_key, check_body}
use Rattle.extension.specs.Parameters.{no_parameters, entry_of, store, number_in, taken, parameters_in, parameters_of, agrees, table_ids, first_differing, matched, check_parameters}

-- one field, by its tests
module _ (a b : ℕ) (v : List ℕ) (m : ParameterMap) where
  pub taken-passed : parameter_key a b ≡ false → m ≡ taken (record { key0 = a; key1 = b; value = v }) m
  unfolding taken
  taken-passed e = rw e

  pub taken-other : (length v ≡ 4 → ⊥) → m ≡ taken (record { key0 = a; key1 = b; value = v }) m
  unfolding taken
  taken-other d = rw (ne_eqb _ _ d) (go (parameter_key a b))
    where
      go : (p : Bool) → m ≡ cond (p && false) (store m b (number_in v)) m
      go true = refl
      go false = refl

  pub taken-four : length v ≡ 4 → parameter_key a b ≡ true → (x : Value) → x ≡ number_in (get_or v 0 0 ∷ get_or v 1 0 ∷ get_or v 2 0 ∷ get_or v 3 0 ∷ [])
      → store m b x ≡ taken (record { key0 = a; key1 = b; value = v }) m
  unfolding taken
  taken-four l e x q = rw (e, eq-eqb _ _ l) (ap (store m b) (q ∙ ap number_in (all-elements 4 v l)))

-- the fields that are left
module _ (fs : List Field) (m : ParameterMap) where
  pub parameters-none : fs ≡ [] → m ≡ parameters_in fs m
  unfolding parameters_in
  parameters-none e = rw e

  pub parameters-next : (f : Field) (rest : List Field) (n : ParameterMap) → fs ≡ f ∷ rest → n ≡ taken f m → parameters_in rest n ≡ parameters_in fs m
  unfolding parameters_in
  parameters-next f rest n e q = rw (e, q)

-- of a body, by what its reader answered
module _ (s : List ℕ) where
  pub parameters-refused : (e : Refusal) → Err e ≡ check_body s → Err e ≡ parameters_of s
  unfolding parameters_of
  parameters-refused e q = rw (← q)

  pub parameters-is : (x : Section) → Ok x ≡ check_body s → (m : ParameterMap) → m ≡ parameters_in (section_items (read_field s) x) no_parameters
      → Ok m ≡ parameters_of s
  unfolding parameters_of
  parameters-is x e m q = rw (← e) (ap Ok q)

-- an entry that was stored, and any other
pub store_same : (m : ParameterMap) (id : ℕ) (v : Value) → id < length m.entries → entry_of (store m id v) id ≡ v
unfolding entry_of
store_same m id v h = get_or-set_same m.entries id v None h

pub store_other : (m : ParameterMap) (id at : ℕ) (v : Value) → (at ≡ id → ⊥) → entry_of (store m id v) at ≡ entry_of m at
unfolding entry_of
store_other m id at v n = get_or-set_other m.entries id at v None n

-- a map without entries
pub no-entry : (id : ℕ) → id < 256 → entry_of no_parameters id ≡ None
unfolding entry_of no_parameters
no-entry id h = rw (get_or-replicate {A = Value} 256 id None None h)

pub no_length : length no_parameters.entries ≡ 256
unfolding no_parameters
no_length = length-replicate {A = Value} 256 None

-- no id of the list is 0
nonzero : (ids : List ℕ) → any (eqb 0) ids ≡ false → (k : ℕ) → k < length ids → get_or ids k 0 ≡ 0 → ⊥
unfolding any
nonzero [] e k h q = omega arith
nonzero (x ∷ ids) e zero h q = eqb-false 0 x (neither (eqb 0 x) (any (eqb 0) ids) e).0 (sym q)
nonzero (x ∷ ids) e (suc k) h q = nonzero ids (neither (eqb 0 x) (any (eqb 0) ids) e).1 k (omega arith) q

pub table-id : (k : ℕ) → k < 12 → get_or table_ids k 0 ≡ 0 → ⊥
unfolding any table_ids
table-id k h = nonzero table_ids refl k h

-- the ids that are left
module _ (t : Table) (m : ParameterMap) (k : ℕ) where
  pub differs_none : 12 ≤ k → 0 ≡ first_differing t m (drop k table_ids)
  unfolding first_differing table_ids
  differs_none h = rw (drop_of_length-le table_ids h)

  module _ (h : k < 12) (a : Value) (is-a : a ≡ lookup t (get_or table_ids k 0)) (b : Value) (is_b : b ≡ entry_of m (get_or table_ids k 0)) (d : Bool) (is-d : d ≡ not (agrees a b)) where
    agrees-is : agrees (lookup t (get_or table_ids k 0)) (entry_of m (get_or table_ids k 0)) ≡ not d
    agrees-is = sym (ap not is-d ∙ twice (agrees a b) ∙ ap₂ agrees is-a is_b)
      where
        twice : (g : Bool) → not (not g) ≡ g
        twice true = refl
        twice false = refl

    here : drop k table_ids ≡ get_or table_ids k 0 ∷ drop (k + 1) table_ids
    unfolding table_ids
    here = rw (add-one k) (drop-cons table_ids k 0 h)

    pub differs-here : d ≡ true → get_or table_ids k 0 ≡ first_differing t m (drop k table_ids)
    unfolding first_differing
    differs-here e = rw (here, agrees-is, e)

    pub differs_next : d ≡ false → first_differing t m (drop (k + 1) table_ids) ≡ first_differing t m (drop k table_ids)
    unfolding first_differing
    differs_next e = rw (here, agrees-is, e)

-- 15, by the id that was found
pub matched-other : (n : ℕ) → (n ≡ 0 → ⊥) → Err (record { id = n }) ≡ matched n
unfolding matched
matched-other zero d = absurd (d refl)
matched-other (suc n) d = refl

module _ (t : Table) (m : ParameterMap) (id : ℕ) (is-id : id ≡ first_differing t m table_ids) where
  pub matched-none : id ≡ 0 → Ok tt ≡ check_parameters t m
  unfolding check_parameters matched
  matched-none e = rw (← is-id, e)

  pub matched-some : (id ≡ 0 → ⊥) → Err (record { id = id }) ≡ check_parameters t m
  unfolding check_parameters
  matched-some d = rw (← is-id) (matched-other id d)
