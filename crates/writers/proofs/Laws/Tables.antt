-- A computed table as parameters: the entries that were stored, and the match.
-- Assumes nothing.
use Rattle.std.proofs.Common.{◌≡◌, ℕ, suc, ◌+◌, ◌<◌, ◌≤◌, Bool, true, false, cond, ◌||◌, eqb, leb, List, [], ◌∷◌, length, get_or, drop, sym, refl, ◌∙◌, subst, add-one, arith, length-set, drop_of_length-le, drop-cons, eqb-true, leb-false, leb-true}
use mathlib.Core.Path.{subst⁻¹}
use borrow.Author.Tests.{eqb-false}
use Rattle.voting.specs.Common.{Each}
use Rattle.voting.specs.Table.{lookup}
use Rattle.voting.specs.Value.{Value}
use Rattle.std.specs.Prelude.{None, Result, Ok, Err, ⊤, IsOk}
use Rattle.voting.specs.declared.table.Table.{Table}
use Rattle.voting.proofs.Laws.Tests.{by-test, neither}
use Rattle.voting.proofs.Laws.Table.{absent-number, lookup-none}
use Rattle.extension.specs.declared.parameters.ParameterMap.{ParameterMap}
use Rattle.extension.specs.declared.parameters.Mismatch.{Mismatch}
use Rattle.extension.specs.Section.{any}
use Rattle.extension.specs.Parameters.{no_parameters, entry_of, store, table_ids, check_parameters, Stands, LeastCarried}
use Rattle.extension.proofs.Laws.Parameters.{store_same, store_other, no-entry, no_length}
use Rattle.extension.proofs.Laws.Matched.{least-carried}
use Rattle.writers.specs.Tables.{entries_in, table_parameters, TableCarried}

-- the ids that are left, and their entries
ids-here : (k : ℕ) → k < 12 → drop k table_ids ≡ get_or table_ids k 0 ∷ drop (k + 1) table_ids
unfolding table_ids
ids-here k h = rw (add-one k) (drop-cons table_ids k 0 h)

module _ (t : Table) (m : ParameterMap) (k : ℕ) where
  pub entries-end : 12 ≤ k → entries_in t (drop k table_ids) m ≡ m
  unfolding entries_in table_ids
  entries-end h = rw (drop_of_length-le table_ids h)

  pub entries_next : k < 12 → {v : Value} → v ≡ lookup t (get_or table_ids k 0) → {n : ParameterMap} → n ≡ store m (get_or table_ids k 0) v
      → entries_in t (drop k table_ids) m ≡ entries_in t (drop (k + 1) table_ids) n
  unfolding entries_in
  entries_next h p q = rw (ids-here k h, q, p)

-- an id among those that are stored gets the table's entry, any other keeps the entry that it had
module _ (t : Table) (id : ℕ) (small : id < 256) where
  stored-entry : (ids : List ℕ) (m : ParameterMap) → length m.entries ≡ 256 → entry_of (entries_in t ids m) id ≡ cond (any (eqb id) ids) (lookup t id) (entry_of m id)
  unfolding entries_in any
  stored-entry [] m l = refl
  stored-entry (x ∷ ids) m l =
      stored-entry ids (store m x (lookup t x)) (length-set m.entries x (lookup t x) ∙ l) ∙ go (eqb id x) (any (eqb id) ids) refl
    where
      go : (a b : Bool) → eqb id x ≡ a → cond b (lookup t id) (entry_of (store m x (lookup t x)) id) ≡ cond (a || b) (lookup t id) (entry_of m id)
      go true true e = refl
      go true false e = subst (λ (y : ℕ). entry_of (store m y (lookup t y)) id ≡ lookup t id) (eqb-true id x e) (store_same m id (lookup t id) (omega arith))
      go false true e = refl
      go false false e = store_other m x id (lookup t x) (eqb-false id x e)

none-among : (id : ℕ) (ids : List ℕ) → any (eqb id) ids ≡ false → Each (λ x. id ≡ x → ⊥) ids
unfolding any
none-among id [] e = tt
none-among id (x ∷ ids) e = let n = neither (eqb id x) (any (eqb id) ids) e in (eqb-false id x n.0, none-among id ids n.1)

past : (id n : ℕ) → (id ≡ n → ⊥) → n ≤ id → suc n ≤ id
past id n d h = omega arith

-- no other id has an entry
no_other : (t : Table) (id : ℕ) → Each (λ x. id ≡ x → ⊥) table_ids → lookup t id ≡ None
unfolding table_ids
no_other t id n₁ =
    let n₂ = n₁.1 in
    let n₃ = n₂.1 in
    let n₄ = n₃.1 in
    let n₅ = n₄.1 in
    let n₆ = n₅.1 in
    let n₇ = n₆.1 in
    let n₈ = n₇.1 in
    let n₉ = n₈.1 in
    let a = n₉.1 in
    let b = a.1 in
    let c = b.1 in
    lookup-none t id (λ h. past id 9 n₉.0 (past id 8 n₈.0 (past id 7 n₇.0 (past id 6 n₆.0 (past id 5 n₅.0 (past id 4 n₄.0 (past id 3 n₃.0 (past id 2 n₂.0 (past id 1 n₁.0 h))))))))) a.0 b.0 c.0

carried-entry : (t : Table) (id : ℕ) → id ≤ 255 → entry_of (table_parameters t) id ≡ lookup t id
unfolding table_parameters
carried-entry t id h =
    stored-entry t id (omega arith) table_ids no_parameters no_length ∙
    by-test (any (eqb id) table_ids) (λ e. rw e) (λ e. rw (e, no-entry id (omega arith), no_other t id (none-among id table_ids e)))

-- every entry stands, so the match passes
carried-stands : (t : Table) (id : ℕ) → Stands t (table_parameters t) id
carried-stands t id x q =
    by-test (leb id 255) (λ e. carried-entry t id (leb-true id 255 e) ∙ q)
    (λ e. let l = leb-false id 255 e in
    absurd (absent-number x (sym (lookup-none t id (λ h. omega arith) (λ i. omega arith) (λ i. omega arith) (λ i. omega arith)) ∙ q)))

carried-matches : (t : Table) → IsOk (check_parameters t (table_parameters t))
carried-matches t = go (check_parameters t (table_parameters t)) (least-carried t (table_parameters t) (check_parameters t (table_parameters t)) refl).1
  where
    go : (r : Result ⊤ Mismatch) → LeastCarried t (table_parameters t) r → IsOk r
    go (Ok x) p = refl
    go (Err e) p = absurd (p.0 (carried-stands t e.id))

pub table-carried : (t : Table) (m : ParameterMap) → m ≡ table_parameters t → TableCarried t m
table-carried t m e = subst⁻¹ (TableCarried t) e (record { same = carried-entry t; matches = carried-matches t })
