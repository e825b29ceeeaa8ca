-- The match of a computed table with what was found, and with the parameters of a body.
-- Assumes nothing.
use mathlib.Core.Path.{◌≡◌, refl, sym, ap, ◌∙◌}
use mathlib.Core.Bool.{Bool, true, false, not, ◌&&◌}
use mathlib.Core.List.{◌∷◌}
use Prim.Native.Nat.{ℕ, zero, suc, ◌+◌, ◌-◌, ◌≤◌, ◌<◌}
use native.Mathlib.Numerals.{add-one}
use native.Mathlib.Omega.{arith}
use lib.Dec.{eqb}
use lib.ListN.{get_or, drop}
use lib.Seq.{drop-cons}
use borrow.Author.Tests.{not-true, not-false, eqb-true, eqb-false, le-leb}
use Rattle.std.specs.Prelude.{Ok, Err, None}
use Rattle.voting.specs.Ordinary.{known}
use Rattle.voting.specs.Table.{lookup}
use Rattle.voting.specs.Value.{Value}
use Rattle.voting.specs.declared.table.Fork.{Fork}
use Rattle.voting.specs.declared.table.Table.{Table}
use Rattle.voting.proofs.Laws.Tests.{by-test, both}
use Rattle.voting.proofs.Laws.Table.{lookup-known}
use Rattle.extension.specs.declared.parameters.ParameterMap.{ParameterMap}
use Rattle.extension.specs.Parameters.{agrees, table_ids, first_differing, matched, check_parameters}
use Rattle.extension.proofs.Laws.Parameters.{matched-other}
use Rattle.walk.specs.Walk.{table_in, first_unlike, match_found}
use Rattle.walk.specs.Fields.{fork_unlike}

-- with the entries of a body's parameters it is the match with the parameters
pub match-parameters : (e : Table) (m : ParameterMap) → match_found e (table_in m) ≡ check_parameters e m
unfolding match_found check_parameters first_unlike first_differing table_ids table_in lookup
match-parameters e m = refl

-- a test of every number below another, by computing
abbrev all-below : (ℕ → Bool) → ℕ → Bool
all-below f zero = true
all-below f (suc n) = f n && all-below f n

below : (f : ℕ → Bool) (n : ℕ) → all-below f n ≡ true → (k : ℕ) → k < n → f k ≡ true
below f zero e k h = absurd (omega arith)
below f (suc n) e k h =
    let w = both (f n) (all-below f n) e in
    by-test (eqb k n) (λ q. ap f (eqb-true k n q) ∙ w.0) (λ q. below f n w.1 k (omega (arith, eqb-false k n q)))

-- the ids that are left, while the ids before them agree
module _ (e f : Table) (k : ℕ) (so-far : first_unlike e f (drop k table_ids) ≡ first_unlike e f table_ids) where
  pub match-fork : k ≤ 9 → 9 ≤ k → matched (fork_unlike e.fork f.fork) ≡ match_found e f
  unfolding match_found fork_unlike first_unlike table_ids lookup
  match-fork h l = let nine : k ≡ 9 = omega arith in ap matched (rw nine at so-far)

  module _ (h : k < 9) where
    here : drop k table_ids ≡ (k + 1) ∷ drop (k + 1) table_ids
    unfolding table_ids
    here =
        let id = eqb-true (get_or table_ids k 0) (k + 1) (below (λ n. eqb (get_or table_ids n 0) (n + 1)) 9 refl k h) in
        rw (add-one k) (drop-cons table_ids k 0 (omega arith) ∙ ap (λ (n : ℕ). n ∷ drop (suc k) table_ids) (id ∙ add-one k))

    abbrev entry : Table → Value
    entry t = get_or t.ordinary k None

    entry-is : (t : Table) → lookup t (k + 1) ≡ entry t
    unfolding known
    entry-is t =
        let same : k + 1 - 1 ≡ k = omega arith in
        lookup-known t (k + 1) (rw (le-leb 1 (k + 1) (omega arith), le-leb (k + 1) 9 (omega arith)))
        ∙ ap (λ (i : ℕ). get_or t.ordinary i None) same

    module _ (d : Bool) (is-d : d ≡ not (agrees (entry e) (entry f))) where
      pub match-here : d ≡ true → Err (record { id = k + 1 }) ≡ match_found e f
      unfolding match_found first_unlike
      match-here t =
          let n = not-true (agrees (entry e) (entry f)) (sym is-d ∙ t) in
          let is : k + 1 ≡ first_unlike e f (drop k table_ids) = rw (here, entry-is e, entry-is f, n) in
          matched-other (k + 1) (λ z. omega arith) ∙ ap matched (is ∙ so-far)

      pub match-next : d ≡ false → first_unlike e f (drop (k + 1) table_ids) ≡ first_unlike e f table_ids
      unfolding first_unlike
      match-next t =
          let y = not-false (agrees (entry e) (entry f)) (sym is-d ∙ t) in
          rw (here, entry-is e, entry-is f, y) at so-far

-- the entries of the fork
module _ (e f : Fork) (a : Bool) (is-a : a ≡ not (agrees e.votes f.votes)) where
  pub unlike-votes : a ≡ true → Err (record { id = 121 }) ≡ matched (fork_unlike e f)
  unfolding fork_unlike matched
  unlike-votes t = let votes = not-true (agrees e.votes f.votes) (sym is-a ∙ t) in rw votes

  module _ (t : a ≡ false) (b : Bool) (is_b : b ≡ not (agrees e.start f.start)) where
    votes : agrees e.votes f.votes ≡ true
    votes = not-false (agrees e.votes f.votes) (sym is-a ∙ t)

    pub unlike-start : b ≡ true → Err (record { id = 122 }) ≡ matched (fork_unlike e f)
    unfolding fork_unlike matched
    unlike-start u = let start = not-true (agrees e.start f.start) (sym is_b ∙ u) in rw (votes, start)

    module _ (u : b ≡ false) (c : Bool) (is_c : c ≡ not (agrees e.version f.version)) where
      start : agrees e.start f.start ≡ true
      start = not-false (agrees e.start f.start) (sym is_b ∙ u)

      pub unlike-version : c ≡ true → Err (record { id = 123 }) ≡ matched (fork_unlike e f)
      unfolding fork_unlike matched
      unlike-version v = let version = not-true (agrees e.version f.version) (sym is_c ∙ v) in rw (votes, start, version)

      pub unlike-none : c ≡ false → Ok tt ≡ matched (fork_unlike e f)
      unfolding fork_unlike matched
      unlike-none v = let version = not-false (agrees e.version f.version) (sym is_c ∙ v) in rw (votes, start, version)
