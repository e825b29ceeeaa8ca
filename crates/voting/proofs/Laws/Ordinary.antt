-- What the ordinary votes do: what becomes of each, when they are refused, and what they leave alone.
-- Assumes nothing.
use Rattle.std.proofs.Common.{◌≡◌, ℕ, Bool, true, false, cond, not, ◌&&◌, ◌||◌, List, [], ◌∷◌, ℤ, sym, refl, ◌∙◌, ap₂}
use Rattle.codec.specs.declared.refusal.Refusal.{Refusal}
use Rattle.codec.specs.declared.refusal.Refusal.TheVariants.{UnknownParameter, AbsentParameter}
use Rattle.codec.specs.Check.{and_then}
use Rattle.voting.specs.declared.settings.VotingConfig.{VotingConfig}
use Rattle.voting.specs.Value.{Value}
use Rattle.std.specs.Prelude.{None, Some, Result, Ok, Err}
use Rattle.std.specs.Result.{is_ok, result_unwrap_or}
use Rattle.voting.specs.declared.table.Table.{Table}
use Rattle.voting.specs.declared.tally.Entry.{Entry}
use Rattle.voting.specs.Common.{Each}
use Rattle.voting.specs.Table.{lookup, update}
use Rattle.voting.specs.Ordinary.{parameter, moved, known, counts, writes, approved_vote, voted, ordinary_votes}
use Rattle.voting.specs.Boundary.{is_absent}
use Rattle.voting.proofs.Laws.Tests.{every, then_ok}
use Rattle.voting.proofs.Laws.Each.{each, each_of}
use Rattle.voting.proofs.Laws.Table.{lookup-update-other, update-keeps}

-- The ways of a vote: it does not count, its parameter is unknown or absent, or it moves its parameter. Which one it is the table so far
-- does not say.
pub by-vote : (P : (Table → Result Table Refusal) → Type 0) (g : VotingConfig) (from : Table) (e : Entry)
    → (counts g e ≡ false → P (λ new. Ok new))
    → (counts g e ≡ true → known (parameter e.id) ≡ false → P (λ new. Err UnknownParameter))
    → (counts g e ≡ true → known (parameter e.id) ≡ true → lookup from (parameter e.id) ≡ None → P (λ new. Err AbsentParameter))
    → ((z : ℤ) → counts g e ≡ true → known (parameter e.id) ≡ true → lookup from (parameter e.id) ≡ Some z
    → P (λ new. Ok (update new (parameter e.id) (Some (moved e.id z)))))
    → P (voted g from e)
unfolding voted approved_vote writes
by-vote P g from e silent unknown absent moves = go (counts g e) refl (known (parameter e.id)) refl (lookup from (parameter e.id)) refl
  where
    go : (b : Bool) → counts g e ≡ b → (k : Bool) → known (parameter e.id) ≡ k → (v : Value) → lookup from (parameter e.id) ≡ v
        → P (λ new. cond b (cond k (writes e.id new v) (Err UnknownParameter)) (Ok new))
    go false c k q v l = silent c
    go true c false q v l = unknown c q
    go true c true q None l = absent c q l
    go true c true q (Some z) l = moves z c q l

-- Whether the votes are refused: an entry that does not count, or whose parameter is known and there
unfoldable pub sound : VotingConfig → Table → Entry → Bool
sound g from e = not (counts g e) || (known (parameter e.id) && not (is_absent (lookup from (parameter e.id))))

voted-refusal : (g : VotingConfig) (from : Table) (e : Entry) (new : Table) → is_ok (voted g from e new) ≡ sound g from e
unfolding sound is_absent
voted-refusal g from e new =
    by-vote (λ f. is_ok (f new) ≡ sound g from e) g from e (λ c. rw c) (λ c k. rw (c, k)) (λ c k l. rw (c, k, l)) (λ z c k l. rw (c, k, l))

then-refusal : (v : Result Table Refusal) (k : Table → Result Table Refusal) (b : Bool) → ((t : Table) → is_ok (k t) ≡ b) → is_ok (and_then v k) ≡ is_ok v && b
then-refusal (Ok t) k b h = h t
then-refusal (Err e) k b h = refl

pub ordinary-refusal : (g : VotingConfig) (from : Table) (es : List Entry) (new : Table) → is_ok (ordinary_votes g from es new) ≡ every (sound g from) es
unfolding ordinary_votes every
ordinary-refusal g from [] new = refl
ordinary-refusal g from (e ∷ es) new =
    then-refusal (voted g from e new) (ordinary_votes g from es) (every (sound g from) es) (ordinary-refusal g from es)
    ∙ ap₂ ◌&&◌ (voted-refusal g from e new) refl

-- What every write of an approved vote keeps, the votes keep
module _ (P : Table → Type 0) (g : VotingConfig) (from : Table) where
  abbrev pub Kept : Entry → Type 0
  Kept e = counts g e ≡ true → known (parameter e.id) ≡ true → (t : Table) (y : Value) → P t → P (update t (parameter e.id) y)

  pub voted-carries : (e : Entry) (new t : Table) → Kept e → P new → voted g from e new ≡ Ok t → P t
  voted-carries e new t h p =
      by-vote (λ f. f new ≡ Ok t → P t) g from e
      (λ c q. let i : new ≡ t = cc in rw i at p)
      (λ c k q. absurd cc)
      (λ c k l q. absurd cc)
      (λ z c k l q. let i : update new (parameter e.id) (Some (moved e.id z)) ≡ t = cc in rw i at (h c k new (Some (moved e.id z)) p))

  pub votes-carry : (es : List Entry) (new t : Table) → Each Kept es → P new → ordinary_votes g from es new ≡ Ok t → P t
  unfolding ordinary_votes
  votes-carry [] new t h p q = let i : new ≡ t = cc in rw i at p
  votes-carry (e ∷ es) new t h p q =
      let o = then_ok (voted g from e new) (ordinary_votes g from es) q in
      votes-carry es o.0 t h.1 (voted-carries e new o.0 h.0 p o.1) o.2

-- so does the table that goes on after them: where they are refused, the one that they came with
kept_or : (P : Table → Type 0) (r : Result Table Refusal) (new : Table) → P new → ((t : Table) → r ≡ Ok t → P t) → P (result_unwrap_or r new)
kept_or P (Ok t) new p h = h t refl
kept_or P (Err e) new p h = p

-- the entries for the fork stay
pub ordinary-keeps-read : (g : VotingConfig) (from : Table) (es : List Entry) (new t : Table) → ordinary_votes g from es new ≡ Ok t → t.fork ≡ new.fork
ordinary-keeps-read g from es new t =
    votes-carry (λ t. t.fork ≡ new.fork) g from es new t (each_of (Kept (λ t. t.fork ≡ new.fork) g from) (λ e c k t y q. update-keeps t (parameter e.id) y k ∙ q) es) refl

pub ordinary-keeps : (g : VotingConfig) (from : Table) (es : List Entry) (new : Table) → (result_unwrap_or (ordinary_votes g from es new) new).fork ≡ new.fork
ordinary-keeps g from es new = kept_or (λ t. t.fork ≡ new.fork) (ordinary_votes g from es new) new refl (ordinary-keeps-read g from es new)

-- votes for other parameters leave this one
pub ordinary-stays-read : (g : VotingConfig) (from new t : Table) (es : List Entry) (m : ℕ) → Each (λ e. parameter e.id ≡ m → ⊥) es → ordinary_votes g from es new ≡ Ok t
    → lookup t m ≡ lookup new m
ordinary-stays-read g from new t es m h =
    votes-carry (λ t. lookup t m ≡ lookup new m) g from es new t
    (each (λ e. parameter e.id ≡ m → ⊥) (Kept (λ t. lookup t m ≡ lookup new m) g from)
    (λ e d c k t y q. lookup-update-other t (parameter e.id) m y (λ p. d (sym p)) ∙ q) es h)
    refl

pub ordinary-stays : (g : VotingConfig) (from new : Table) (es : List Entry) (m : ℕ) → Each (λ e. parameter e.id ≡ m → ⊥) es
    → lookup (result_unwrap_or (ordinary_votes g from es new) new) m ≡ lookup new m
ordinary-stays g from new es m h =
    kept_or (λ t. lookup t m ≡ lookup new m) (ordinary_votes g from es new) new refl (λ t. ordinary-stays-read g from new t es m h)
