-- Reading the table after one entry of it was written.
-- Assumes nothing.
use Rattle.std.proofs.Common.{◌≡◌, ℕ, ◌-◌, ◌<◌, ◌≤◌, true, false, eqb, ltb, leb, List, length, get_or, set, ℤ, sym, refl, ap, ◌∙◌, arith, get_or-set_other, get_or-set_same, ltb-false, ltb-true, le-ltb, lt-ltb, ne_eqb, eqb-true, leb-true}
use lib.ListN.{get_or-eq_default}
use lib.Seq.{set_comm}
use Rattle.voting.specs.Value.{Value}
use Rattle.std.specs.Prelude.{None, Some}
use Rattle.voting.specs.declared.table.Table.{Table}
use Rattle.voting.specs.Table.{fork_entries, with_fork, lookup, update}
use Rattle.voting.specs.Ordinary.{known}
use Rattle.voting.proofs.Laws.Tests.{by-test, both}

pub absent-number : (x : ℤ) → None ≡ Some x → ⊥
absent-number x e = let z : ◌≡◌ {A = ℕ} 0 1 = cc in omega arith

pub known-range : (m : ℕ) → known m ≡ true → (1 ≤ m) × (m ≤ 9)
unfolding known
known-range m k = let p = both (leb 1 m) (leb m 9) k in (leb-true 1 m p.0, leb-true m 9 p.1)

-- the tests of `lookup` and `update` at an ordinary parameter
known-tests : (m : ℕ) → known m ≡ true → (eqb m 121 ≡ false) × (eqb m 122 ≡ false) × (eqb m 123 ≡ false) × (ltb m 1 ≡ false) × (ltb 9 m ≡ false)
known-tests m k =
    let r = known-range m k in
    (ne_eqb m 121 (λ q. omega arith), ne_eqb m 122 (λ q. omega arith), ne_eqb m 123 (λ q. omega arith), le-ltb m 1 r.0, le-ltb 9 m r.1)

-- the ordinary entries of a table with one of them written
abbrev pub with_ordinary : Table → ℕ → Value → Table
with_ordinary t m v = record { ordinary = set t.ordinary (m - 1) v; fork = t.fork }

pub update-known : (t : Table) (m : ℕ) (v : Value) → known m ≡ true → update t m v ≡ with_ordinary t m v
unfolding update
update-known t m v k = let e = known-tests m k in simp (e.0, e.1, e.2, e.3, e.4)

pub lookup-known : (t : Table) (m : ℕ) → known m ≡ true → lookup t m ≡ (get_or t.ordinary (m - 1) None)
unfolding lookup
lookup-known t m k = let e = known-tests m k in simp (e.0, e.1, e.2, e.3, e.4)

-- no other id has an entry: 0, 10 to 120, and 124 on
pub lookup-none : (t : Table) (id : ℕ) → (1 ≤ id → 9 < id) → (id ≡ 121 → ⊥) → (id ≡ 122 → ⊥) → (id ≡ 123 → ⊥) → lookup t id ≡ None
unfolding lookup
lookup-none t id h a b c =
    rw (ne_eqb id 121 a, ne_eqb id 122 b, ne_eqb id 123 c)
    (by-test (ltb id 1) (λ e. rw e) (λ e. rw (e, lt-ltb 9 id (h (ltb-false id 1 e)))))

-- an entry that is there, written
pub lookup-update-same : (t : Table) (m : ℕ) (v : Value) (z : ℤ) → known m ≡ true → lookup t m ≡ Some z → lookup (update t m v) m ≡ v
lookup-update-same t m v z k e =
    ap (λ (u : Table). lookup u m) (update-known t m v k)
    ∙ lookup-known (with_ordinary t m v) m k
    ∙ (get_or-set_same t.ordinary (m - 1) v None there)
  where
    outside : length t.ordinary ≤ m - 1 → None ≡ Some z
    outside h = sym ((get_or-eq_default t.ordinary None h)) ∙ sym (lookup-known t m k) ∙ e

    there : m - 1 < length t.ordinary
    there =
        by-test (ltb (m - 1) (length t.ordinary)) (λ q. ltb-true (m - 1) (length t.ordinary) q)
        (λ q. absurd (absent-number z (outside (ltb-false (m - 1) (length t.ordinary) q))))

-- two parameters written in either order
pub update_comm : (t : Table) (m k : ℕ) (v w : Value) → known m ≡ true → known k ≡ true → (m ≡ k → ⊥) → update (update t m v) k w ≡ update (update t k w) m v
update_comm t m k v w p q d =
    let r = known-range m p in
    let s = known-range k q in
    ap (λ (u : Table). update u k w) (update-known t m v p)
    ∙ update-known (with_ordinary t m v) k w q
    ∙ ap {B = Table} (λ (l : List Value). record { ordinary = l; fork = t.fork }) (set_comm t.ordinary (m - 1) (k - 1) v w (λ e. d (omega arith)))
    ∙ sym (update-known (with_ordinary t k w) m v p)
    ∙ sym (ap (λ (u : Table). update u m v) (update-known t k w q))

pub update-keeps : (t : Table) (m : ℕ) (v : Value) → known m ≡ true → (update t m v).fork ≡ t.fork
update-keeps t m v k = ap (λ (u : Table). u.fork) (update-known t m v k)

-- the ways of `update`
pub by-update : (P : Table → Type 0) (t : Table) (m : ℕ) (v : Value)
    → (m ≡ 121 → P (with_fork t (fork_entries v t.fork.start t.fork.version)))
    → (m ≡ 122 → P (with_fork t (fork_entries t.fork.votes v t.fork.version)))
    → (m ≡ 123 → P (with_fork t (fork_entries t.fork.votes t.fork.start v)))
    → P t → (1 ≤ m → m ≤ 9 → P (with_ordinary t m v)) → P (update t m v)
unfolding update
by-update P t m v p q r s o =
    by-test (eqb m 121) (λ e. simp e (p (eqb-true m 121 e))) λ a.
    by-test (eqb m 122) (λ e. simp (a, e) (q (eqb-true m 122 e))) λ b.
    by-test (eqb m 123) (λ e. simp (a, b, e) (r (eqb-true m 123 e))) λ c.
    by-test (ltb m 1) (λ e. simp (a, b, c, e) s) λ f.
    by-test (ltb 9 m) (λ e. simp (a, b, c, f, e) s) λ g.
    simp (a, b, c, f, g) (o (ltb-false m 1 f) (ltb-false 9 m g))

pub lookup-update-other : (t : Table) (m k : ℕ) (v : Value) → (k ≡ m → ⊥) → lookup (update t m v) k ≡ lookup t k
unfolding lookup
lookup-update-other t m k v d =
    by-update (λ u. lookup u k ≡ lookup t k) t m v
    (λ e. rw (ne_eqb k 121 (λ q. d (q ∙ sym e))))
    (λ e. rw (ne_eqb k 122 (λ q. d (q ∙ sym e))))
    (λ e. rw (ne_eqb k 123 (λ q. d (q ∙ sym e))))
    refl
    (λ a b. by-test (ltb k 1) (λ e. rw e)
    (λ e. rw (get_or-set_other t.ordinary (m - 1) (k - 1) v None (λ q. d (omega (arith, ltb-false))))))
