-- What the calls of the boundary say, one after another. Assumes nothing.
use mathlib.Core.Path.{◌≡◌, refl, sym, ap, ◌∙◌, subst, subst₂}
use mathlib.Core.Logic.{inl, inr}
use mathlib.Core.List.{List}
use Prim.Native.Nat.{ℕ}
use Rattle.std.specs.Prelude.{Result, Ok, Err, ⊤}
use Rattle.codec.specs.declared.refusal.Refusal.{Refusal}
use Rattle.codec.specs.declared.refusal.Refusal.TheVariants.{EntryDiffers}
use Rattle.codec.specs.Refusal.{number}
use Rattle.voting.specs.declared.tally.Entry.{Entry}
use Rattle.voting.specs.Order as order
use Rattle.extension.specs.declared.boundary.Computed.{Computed}
use Rattle.extension.specs.declared.parameters.Mismatch.{Mismatch}
use Rattle.extension.specs.Order.{InAnyOrder}
use Rattle.lent.specs.declared.boundary.BoundaryAt.{BoundaryAt}
use Rattle.wire.specs.Boundary.{question_of, computed_bytes}
use Rattle.exports.specs.Reply.{Reply, reply, numbered, answered, with_id, Told}
use Rattle.exports.specs.Calls.{NoParameter, into, computed_by, boundary_of, SameReply, RepliesInAnyOrder, matched_code, matched_number, matched_id}

-- the answer to a match, and to a mismatch
pub matched-none : {x : Result ⊤ Mismatch} {u : ⊤} → Ok u ≡ x → (0 ≡ matched_code x) × Told 0 (matched_number x) (matched_id x)
unfolding matched_code matched_number matched_id
matched-none q = rw (← q) (refl, record { number_is = refl; id-is = refl })

pub matched-told : {x : Result ⊤ Mismatch} {e : Mismatch} → Err e ≡ x → {n r : ℕ} → n ≡ number EntryDiffers → r ≡ with_id n e.id → Told r n e.id
    → (r ≡ matched_code x) × Told r (matched_number x) (matched_id x)
unfolding matched_code matched_number matched_id
matched-told q p c t = rw (← q, ← p) (c, t)

same_self : (x : Reply) → SameReply x x
same_self (reply n cells) = (inl refl, refl)

no-parameter : (e : Refusal) → order.NoParameter e → NoParameter (number e)
no-parameter e (inl q) = inl (ap number q)
no-parameter e (inr q) = inr (ap number q)

-- the same answer, written
same-reply : (x y : Result Computed Refusal) (cells : List ℕ) → order.Alike x y → SameReply (numbered (into computed_bytes x cells)) (numbered (into computed_bytes y cells))
unfolding into answered
same-reply (Ok x) (Ok y) cells o = subst (SameReply (numbered (into computed_bytes (Ok x) cells))) (ap (λ (z : Computed). numbered (into computed_bytes (Ok z) cells)) o) (same_self (numbered (into computed_bytes (Ok x) cells)))
same-reply (Ok x) (Err e) cells o = absurd o
same-reply (Err d) (Ok y) cells o = absurd o
same-reply (Err d) (Err e) cells (inl q) = (inl (ap number q), refl)
same-reply (Err d) (Err e) cells (inr p) = (inr (no-parameter d p.0, no-parameter e p.1), refl)

-- what is promised of every order, of a question that was read
abbrev pub Promised : BoundaryAt → List Entry → List ℕ → Result Computed Refusal → Type 0
Promised a tally update c = (c ≡ computed_by a tally update) × InAnyOrder a.config a.height a.table tally a.vote update c

-- the question that was read, what was computed of it, what was written of that
module _ (tally : List Entry) (update q cells after : List ℕ) (r : ℕ) (a : BoundaryAt) (c : Result Computed Refusal) (p : a ≡ question_of q) (h : reply r after ≡ numbered (into computed_bytes c cells)) where
  in_order : c ≡ computed_by a tally update → reply r after ≡ numbered (into computed_bytes (boundary_of tally update q) cells)
  unfolding boundary_of
  in_order e = h ∙ ap (λ (d : Result Computed Refusal). numbered (into computed_bytes d cells)) (e ∙ ap (λ (b : BoundaryAt). computed_by b tally update) p)

  in-any : InAnyOrder a.config a.height a.table tally a.vote update c → RepliesInAnyOrder tally update q cells (reply r after)
  unfolding boundary_of computed_by
  in-any any consistent other moved =
      subst₂ SameReply (sym h) (ap (λ (b : BoundaryAt). numbered (into computed_bytes (computed_by b other update) cells)) p)
      (same-reply c (computed_by a other update) cells (any consistent other moved).answer)

  pub boundary-is : Promised a tally update c
      → (reply r after ≡ numbered (into computed_bytes (boundary_of tally update q) cells)) × RepliesInAnyOrder tally update q cells (reply r after)
  boundary-is e = (in_order e.0, in-any e.1)
