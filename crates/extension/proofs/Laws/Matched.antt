-- 15 carries the least id, by number, whose entry is missing or different.
-- Assumes nothing.
use mathlib.Core.Path.{◌≡◌, refl, sym, ap, subst, ◌∙◌}
use mathlib.Core.Bool.{Bool, true, false, cond, true≢false}
use mathlib.Core.List.{List, [], ◌∷◌}
use Prim.Native.Nat.{ℕ, zero, suc, ◌≤◌, ◌<◌}
use native.Mathlib.Omega.{arith}
use borrow.Author.Tests.{ltb-true, ltb-false, eqb-true, eqb-false}
use lib.Dec.{ltb, eqb}
use lib.IntN.{ℤ}
use Rattle.voting.specs.Table.{lookup}
use Rattle.voting.specs.Value.{Value}
use Rattle.std.specs.Prelude.{None, Some, Result, ⊤}
use Rattle.voting.specs.declared.table.Table.{Table}
use Rattle.voting.proofs.Laws.Tests.{by-test}
use Rattle.voting.proofs.Laws.Table.{absent-number, lookup-none}
use Rattle.voting.proofs.Laws.Integers.{eq_z-true, eq_z-same}
use Rattle.extension.specs.declared.parameters.ParameterMap.{ParameterMap}
use Rattle.extension.specs.declared.parameters.Mismatch.{Mismatch}
use Rattle.extension.specs.Parameters.{entry_of, agrees, table_ids, first_differing, matched, check_parameters, Stands, LeastCarried}

-- two entries that agree, and two that do not
agreeing : (a b : Value) → agrees a b ≡ true → (x : ℤ) → a ≡ Some x → b ≡ Some x
unfolding agrees
agreeing None b e x q = absurd (absent-number x q)
agreeing (Some y) None e x q = absurd (true≢false (sym e))
agreeing (Some y) (Some z) e x q = ap Some (sym (eq_z-true y z e)) ∙ q

differing : (a b : Value) → agrees a b ≡ false → ((x : ℤ) → a ≡ Some x → b ≡ Some x) → ⊥
unfolding agrees
differing None b e f = true≢false e
differing (Some x) b e f = true≢false (sym (ap (agrees (Some x)) (f x refl) ∙ eq_z-same x) ∙ e)

module _ (t : Table) where
  -- the ids of a list in rising order, from a number on: whatever lies between them has no entry
  abbrev Rising : ℕ → List ℕ → Type 0
  Rising from [] = (id : ℕ) → from ≤ id → lookup t id ≡ None
  Rising from (next ∷ ids) = ((id : ℕ) → from ≤ id → id < next → lookup t id ≡ None) × Rising (suc next) ids

  none : {n : ℕ} (id : ℕ) → n ≤ id → id < n → lookup t id ≡ None
  none id a b = absurd (omega arith)

  before : (id : ℕ) → 0 ≤ id → id < 1 → lookup t id ≡ None
  before id a b = lookup-none t id (λ c. omega arith) (λ e. omega arith) (λ e. omega arith) (λ e. omega arith)

  table-ids : Rising 0 table_ids
  unfolding table_ids
  table-ids =
      let between : (id : ℕ) → 10 ≤ id → id < 121 → lookup t id ≡ None = λ id a b. lookup-none t id (λ c. a) (λ e. omega arith) (λ e. omega arith) (λ e. omega arith) in
      let after : (id : ℕ) → 124 ≤ id → lookup t id ≡ None = λ id a. lookup-none t id (λ c. omega arith) (λ e. omega arith) (λ e. omega arith) (λ e. omega arith) in
      (before, (none, (none, (none, (none, (none, (none, (none, (none, (between, (none, (none, after))))))))))))

  module _ (m : ParameterMap) where
    -- every entry of a smaller id stands
    abbrev Below : ℕ → Type 0
    Below n = (id : ℕ) → id < n → Stands t m id

    -- entries that are absent from a number on stand as well
    past : (from id : ℕ) → Below from → (from ≤ id → lookup t id ≡ None) → Stands t m id
    past from id h r = by-test (ltb id from) (λ e. h id (ltb-true id from e)) (λ e x q. absurd (absent-number x (sym (r (ltb-false id from e)) ∙ q)))

    next-below : (n : ℕ) → Below n → Stands t m n → Below (suc n)
    next-below n h s id l =
        by-test (eqb id n) (λ e. subst (Stands t m) (sym (eqb-true id n e)) s) (λ e. h id (let d = eqb-false id n e in omega arith))

    found : (id : ℕ) → agrees (lookup t id) (entry_of m id) ≡ false → Below id → LeastCarried t m (matched id)
    unfolding matched agrees
    found zero e h = absurd (true≢false (sym (ap (λ (v : Value). agrees v (entry_of m 0)) (before 0 (omega arith) (omega arith))) ∙ e))
    found (suc id) e h = (differing (lookup t (suc id)) (entry_of m (suc id)) e, h)

    -- the search through such a list
    least : (ids : List ℕ) (from : ℕ) → Rising from ids → Below from → LeastCarried t m (matched (first_differing t m ids))
    unfolding first_differing matched
    least [] from r h = λ id. past from id h (r id)
    least (next ∷ ids) from r h =
        let below : Below next = λ id l. past from id h (λ a. r.0 id a l) in
        let Answer : Bool → Type 0 = λ b. LeastCarried t m (matched (cond b (first_differing t m ids) next)) in
        by-test (agrees (lookup t next) (entry_of m next))
        (λ e. subst Answer (sym e) (least ids (suc next) r.1 (next-below next below (agreeing (lookup t next) (entry_of m next) e))))
        (λ e. subst Answer (sym e) (found next e below))

pub least-carried : (t : Table) (m : ParameterMap) (r : Result ⊤ Mismatch) → r ≡ check_parameters t m → (r ≡ check_parameters t m) × LeastCarried t m r
unfolding check_parameters
least-carried t m r e = (e, subst (LeastCarried t m) (sym e) (least t m table_ids 0 (table-ids t) (λ id l. absurd (omega arith))))
