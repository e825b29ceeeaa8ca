-- The boundary in one pass over the tally: the ways through the code, and that the pass gives the boundary of the rules.
-- Assumes nothing.
use Rattle.std.proofs.Common.{◌≡◌, ℕ, ◌+◌, ◌<◌, ◌≤◌, Bool, true, false, cond, not, ◌&&◌, ◌||◌, eqb, List, [], ◌∷◌, length, get_or, drop, pos, sym, refl, ap, ◌∙◌, add-one, arith, drop_of_length-le, drop-cons, w8, SFits, of_z, le-ltb, eq-eqb, ne_eqb}
use Rattle.codec.specs.declared.refusal.Refusal.TheVariants.{UnknownParameter}
use Rattle.voting.specs.declared.settings.VotingConfig.{VotingConfig}
use Rattle.voting.specs.Value.{Value}
use Rattle.std.specs.Prelude.{None, Some, Result, Ok, Err}
use Rattle.codec.specs.declared.refusal.Refusal.{Refusal}
use Rattle.codec.specs.Check.{and_then}
use Rattle.voting.specs.declared.table.Fork.{Fork}
use Rattle.voting.specs.declared.table.Table.{Table}
use Rattle.voting.specs.declared.tally.Entry.{Entry}
use Rattle.voting.specs.declared.tally.Tally.{Tally}
use Rattle.voting.specs.declared.fork.ForkPart.{ForkPart}
use Rattle.voting.specs.declared.boundary.Sweep.{Sweep}
use Rattle.voting.specs.declared.boundary.Boundary.{Boundary}
use Rattle.voting.specs.Common.{eq_z}
use Rattle.voting.specs.Table.{lookup, update, with_fork}
use Rattle.voting.specs.Header.{soft_fork_vote}
use Rattle.voting.specs.Tally.{no_entry, entry, entries, first_count}
use Rattle.voting.specs.ForkPart.{fork_part}
use Rattle.voting.specs.Ordinary.{parameter, moved, known, counts, writes, approved_vote, voted, ordinary_votes}
use Rattle.voting.specs.Boundary.{with_subblocks, boundary_of}
use Rattle.voting.specs.Sweep.{begin_sweep, sweep_entry, sweep_entries, finish_sweep}
use Rattle.voting.proofs.Laws.Integers.{is-number}
use Rattle.voting.proofs.Laws.Tests.{by-test}
use Rattle.voting.proofs.Laws.Table.{known-range}

-- ---- the ways through the code

-- an entry: whether it is for the fork is told by the id's bits
module _ (g : VotingConfig) (t : Table) (s : Sweep) (e : Entry) (fits : SFits w8 e.id) (found : Bool) (is_found : found ≡ (eqb (of_z w8 e.id) soft_fork_vote || s.found))
    (v : Result Table Refusal) (is-v : v ≡ and_then s.voted (voted g t e)) where
  same-found : (eqb (of_z w8 e.id) soft_fork_vote || s.found) ≡ cond (eq_z e.id (pos soft_fork_vote)) true s.found
  same-found = rw (is-number w8 e.id soft_fork_vote fits (omega arith)) (go (eqb (of_z w8 e.id) soft_fork_vote))
    where
      go : (b : Bool) → (b || s.found) ≡ cond b true s.found
      go true = refl
      go false = refl

  pub entry-is : (votes : ℕ) → votes ≡ cond (eqb (of_z w8 e.id) soft_fork_vote && not s.found) e.count s.votes
      → record { found = found; votes = votes; voted = v } ≡ sweep_entry g t s e
  unfolding sweep_entry
  entry-is votes q = rw (is_found, same-found, is-v, q, is-number w8 e.id soft_fork_vote fits (omega arith))

-- a place of a tally
module _ (g : VotingConfig) (t : Table) (s : Sweep) (e : Entry) (fits : SFits w8 e.id) where
  pub place-empty : of_z w8 e.id ≡ 0 → s ≡ sweep_entries g t s (entry e [])
  unfolding entry sweep_entries
  place-empty q = rw (is-number w8 e.id 0 fits (omega arith), eq-eqb (of_z w8 e.id) 0 q)

  pub place-held : (of_z w8 e.id ≡ 0 → ⊥) → sweep_entry g t s e ≡ sweep_entries g t s (entry e [])
  unfolding entry sweep_entries
  place-held d = rw (is-number w8 e.id 0 fits (omega arith), ne_eqb (of_z w8 e.id) 0 d)

-- ---- what a pass leaves

-- the ordinary votes, one after the other
and-assoc : {A : Type 0} (v : Result Table Refusal) (k : Table → Result Table Refusal) (l : Table → Result A Refusal) → and_then (and_then v k) l ≡ and_then v (λ t. and_then (k t) l)
and-assoc (Ok t) k l = refl
and-assoc (Err e) k l = refl

and_none : (v : Result Table Refusal) → v ≡ and_then v (λ t. Ok t)
and_none (Ok t) = refl
and_none (Err e) = refl

-- ---- the ordinary votes neither read nor write the fork entries

lookup-beside : (t : Table) (f : Fork) (m : ℕ) → known m ≡ true → lookup (with_fork t f) m ≡ lookup t m
unfolding lookup
lookup-beside t f m k =
    let r = known-range m k in
    rw (ne_eqb m 121 (λ q. omega arith), ne_eqb m 122 (λ q. omega arith), ne_eqb m 123 (λ q. omega arith))

update-beside : (t : Table) (f : Fork) (m : ℕ) (v : Value) → known m ≡ true → update (with_fork t f) m v ≡ with_fork (update t m v) f
unfolding update
update-beside t f m v k =
    let r = known-range m k in
    simp (ne_eqb m 121 (λ q. omega arith), ne_eqb m 122 (λ q. omega arith), ne_eqb m 123 (λ q. omega arith), le-ltb m 1 r.0, le-ltb 9 m r.1)

-- what was voted, beside other fork entries
abbrev beside : Fork → Result Table Refusal → Result Table Refusal
beside f v = and_then v (λ t. Ok (with_fork t f))

voted-beside : (g : VotingConfig) (t : Table) (f : Fork) (e : Entry) (new : Table) → voted g (with_fork t f) e (with_fork new f) ≡ beside f (voted g t e new)
unfolding voted approved_vote writes
voted-beside g t f e new = go (counts g e) (known (parameter e.id)) refl
  where
    written : (v : Value) → known (parameter e.id) ≡ true → writes e.id (with_fork new f) v ≡ beside f (writes e.id new v)
    written None q = refl
    written (Some z) q = ap Ok (update-beside new f (parameter e.id) (Some (moved e.id z)) q)

    go : (b k : Bool) → known (parameter e.id) ≡ k
        → cond b (cond k (writes e.id (with_fork new f) (lookup (with_fork t f) (parameter e.id))) (Err UnknownParameter)) (Ok (with_fork new f))
        ≡ beside f (cond b (cond k (writes e.id new (lookup t (parameter e.id))) (Err UnknownParameter)) (Ok new))
    go false k q = refl
    go true false q = refl
    go true true q = ap (writes e.id (with_fork new f)) (lookup-beside t f (parameter e.id) q) ∙ written (lookup t (parameter e.id)) q

then-beside : (f : Fork) (v : Result Table Refusal) (k k' : Table → Result Table Refusal) → ((t : Table) → k' (with_fork t f) ≡ beside f (k t))
    → and_then (beside f v) k' ≡ beside f (and_then v k)
then-beside f (Ok t) k k' h = h t
then-beside f (Err e) k k' h = refl

votes-beside : (g : VotingConfig) (t : Table) (f : Fork) (es : List Entry) (new : Table) → ordinary_votes g (with_fork t f) es (with_fork new f) ≡ beside f (ordinary_votes g t es new)
unfolding ordinary_votes
votes-beside g t f [] new = refl
votes-beside g t f (e ∷ es) new =
    ap (λ (v : Result Table Refusal). and_then v (ordinary_votes g (with_fork t f) es)) (voted-beside g t f e new)
    ∙ then-beside f (voted g t e new) (ordinary_votes g t es) (ordinary_votes g (with_fork t f) es) (votes-beside g t f es)

-- ---- the pass gives the boundary of the rules

module _ (g : VotingConfig) (t : Table) where
  -- the entries of a list that are left, one at a time
  module _ (s : Sweep) (es : List Entry) (i : ℕ) where
    pub sweep-here : i < length es → sweep_entries g t s (drop i es) ≡ sweep_entries g t (sweep_entry g t s (get_or es i no_entry)) (drop (i + 1) es)
    unfolding sweep_entries
    sweep-here h = rw (drop-cons es i no_entry h, add-one)

    pub sweep-end : length es ≤ i → sweep_entries g t s (drop i es) ≡ s
    unfolding sweep_entries
    sweep-end h = rw (drop_of_length-le es h)

  -- and the three places of a tally
  sweep-place : (e : Entry) (es : List Entry) (s : Sweep) → sweep_entries g t (sweep_entries g t s (entry e [])) es ≡ sweep_entries g t s (entry e es)
  unfolding entry sweep_entries
  sweep-place e es s = go (eq_z e.id (pos 0))
    where
      go : (b : Bool) → sweep_entries g t (sweep_entries g t s (cond b [] (e ∷ []))) es ≡ sweep_entries g t s (cond b es (e ∷ es))
      go true = refl
      go false = refl

  pub sweep-places : (y : Tally) (a b c s : Sweep) → a ≡ sweep_entries g t s (entry y.first []) → b ≡ sweep_entries g t a (entry y.second []) → c ≡ sweep_entries g t b (entry y.third [])
      → c ≡ sweep_entries g t s (entries y)
  unfolding entries
  sweep-places y a b c s p q r =
      r ∙ ap (λ (x : Sweep). sweep_entries g t x (entry y.third [])) q ∙ sweep-place y.second (entry y.third []) a
      ∙ ap (λ (x : Sweep). sweep_entries g t x (entry y.second (entry y.third []))) p ∙ sweep-place y.first (entry y.second (entry y.third [])) s

  -- the count of the first entry for the fork
  keeps-votes : (s : Sweep) (es : List Entry) → s.found ≡ true → (sweep_entries g t s es).votes ≡ s.votes
  unfolding sweep_entries sweep_entry
  keeps-votes s [] h = refl
  keeps-votes s (e ∷ es) h = keeps-votes (sweep_entry g t s e) es (rw h (both (eq_z e.id (pos soft_fork_vote)))) ∙ rw h (stays (eq_z e.id (pos soft_fork_vote)))
    where
      both : (b : Bool) → cond b true true ≡ true
      both true = refl
      both false = refl

      stays : (b : Bool) → cond (b && false) e.count s.votes ≡ s.votes
      stays true = refl
      stays false = refl

  first-votes : (s : Sweep) (es : List Entry) → s.found ≡ false → s.votes ≡ 0 → (sweep_entries g t s es).votes ≡ first_count (pos soft_fork_vote) es
  unfolding sweep_entries sweep_entry first_count
  first-votes s [] h z = z
  first-votes s (e ∷ es) h z =
      by-test (eq_z e.id (pos soft_fork_vote))
      (λ q. keeps-votes (sweep_entry g t s e) es (rw q) ∙ rw (q, h))
      (λ q. first-votes (sweep_entry g t s e) es (rw q h) (rw q z) ∙ rw q)

  all-votes : (s : Sweep) (es : List Entry) → (sweep_entries g t s es).voted ≡ and_then s.voted (ordinary_votes g t es)
  unfolding sweep_entries sweep_entry ordinary_votes
  all-votes s [] = and_none s.voted
  all-votes s (e ∷ es) = all-votes (sweep_entry g t s e) es ∙ and-assoc s.voted (voted g t e) (ordinary_votes g t es)

  begun-votes : (es : List Entry) → (sweep_entries g t (begin_sweep t) es).voted ≡ ordinary_votes g t es t
  unfolding begin_sweep
  begun-votes es = all-votes (begin_sweep t) es

  begun_first : (es : List Entry) → (sweep_entries g t (begin_sweep t) es).votes ≡ first_count (pos soft_fork_vote) es
  unfolding begin_sweep
  begun_first es = first-votes (begin_sweep t) es refl refl

  -- after the fork part: as the pass goes on, and as the rules do
  abbrev last : ForkPart → Bool → Table → Result Boundary Refusal
  last part disables new = Ok (record { table = with_subblocks (part.round.rose && disables) new; round = part.round })

  abbrev swept : Bool → List Entry → ForkPart → Result Boundary Refusal
  swept disables es part = and_then (ordinary_votes g t es t) (λ new. last part disables (with_fork new part.fork))

  abbrev ruled : Bool → List Entry → ForkPart → Result Boundary Refusal
  ruled disables es part = and_then (ordinary_votes g (with_fork t part.fork) es (with_fork t part.fork)) (last part disables)

  same_last : (disables : Bool) (es : List Entry) (part : ForkPart) → swept disables es part ≡ ruled disables es part
  same_last disables es part = rw (votes-beside g t part.fork es t) (sym (and-assoc (ordinary_votes g t es t) (λ new. Ok (with_fork new part.fork)) (last part disables)))

  finished-is : (height : ℕ) (vote disables : Bool) (s : Sweep) (es : List Entry) → s.votes ≡ first_count (pos soft_fork_vote) es → s.voted ≡ ordinary_votes g t es t
      → finish_sweep g height t vote disables s ≡ boundary_of g height t es vote disables
  unfolding finish_sweep boundary_of
  finished-is height vote disables s es n v = rw (n, v) (go (fork_part g height vote (first_count (pos soft_fork_vote) es) t.fork))
    where
      go : (r : Result ForkPart Refusal) → and_then r (swept disables es) ≡ and_then r (ruled disables es)
      go (Ok part) = same_last disables es part
      go (Err e) = refl

  pub swept_all : (height : ℕ) (es : List Entry) (vote disables : Bool) → finish_sweep g height t vote disables (sweep_entries g t (begin_sweep t) es) ≡ boundary_of g height t es vote disables
  swept_all height es vote disables = finished-is height vote disables (sweep_entries g t (begin_sweep t) es) es (begun_first es) (begun-votes es)
