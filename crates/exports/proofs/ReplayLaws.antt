-- Calls of a replay one after another. Assumes nothing.
use mathlib.Core.Path.{◌≡◌, refl, sym, ap, subst, ◌∙◌}
use mathlib.Core.Bool.{Bool, true, false, cond, true≢false}
use mathlib.Core.List.{List, [], ◌∷◌, ◌++◌}
use Prim.Native.Nat.{ℕ, ◌≤◌}
use native.Mathlib.Omega.{arith}
use borrow.Author.Tests.{le-leb, leb-true}
use lib.Dec.{leb}
use lib.ListN.{length, drop, length-append, length-drop}
use Rattle.codec.specs.declared.refusal.Refusal.TheVariants.{OutputShort, EntryDiffers}
use Rattle.codec.specs.Output.{wrote, refused, outcome, writes}
use Rattle.std.specs.Prelude.{Result, Ok, Err}
use Rattle.std.specs.Result.{result_unwrap_or}
use Rattle.codec.specs.declared.refusal.Refusal.{Refusal}
use Rattle.archive.specs.declared.replay.Replay.{Replay}
use Rattle.archive.specs.declared.replay.Rejection.{Rejection}
use Rattle.archive.specs.declared.replay.Rejection.TheVariants.{Refused, Mismatch}
use Rattle.archive.specs.Replay.{replay_of, state_by, rejection_number, rejection_id}
use Rattle.archive.specs.Rounds.{state_after}
use Rattle.wire.specs.Put.{Written}
use Rattle.wire.proofs.Back.{cells_of, IsWrote}
use Rattle.wire.specs.State.{state_at, state_bytes}
use Rattle.exports.specs.Reply.{Reply, reply, with_id, Told, answered, numbered, answer_of, number_of}
use Rattle.exports.specs.Calls.{replayed_into, replayed_number, replayed_id}
use Rattle.exports.proofs.Laws.{number-some}
use Rattle.exports.specs.Replays.{Replays, CallsOn}

abbrev cells_in : Reply → List ℕ
cells_in (reply r cells) = cells

-- bytes that fit are written: 0 is answered
pub zero-written : (w : Result ℕ Refusal) (r : ℕ) (after bytes cells : List ℕ) → length bytes ≤ length cells → r ≡ number_of w → outcome w after ≡ writes bytes cells → r ≡ 0
unfolding writes answer_of
zero-written (Ok n) r after bytes cells f e q = e
zero-written (Err k) r after bytes cells f e q = absurd (go (leb (length bytes) (length cells)) (le-leb _ _ f) q)
  where
    go : (b : Bool) → b ≡ true → refused k after ≡ cond b (wrote (length bytes) (bytes ++ drop (length bytes) cells)) (refused OutputShort cells) → ⊥
    go true h p = subst IsWrote (sym p) tt
    go false h p = true≢false (sym h)

-- what was written has room in the cells
pub room : (w : Result ℕ Refusal) (after bytes cells : List ℕ) → Written w → outcome w after ≡ writes bytes cells → length bytes ≤ length after
unfolding writes
room (Err k) after bytes cells t q = cc
room (Ok n) after bytes cells t q = go (leb (length bytes) (length cells)) q
  where
    go : (b : Bool) → wrote n after ≡ cond b (wrote (length bytes) (bytes ++ drop (length bytes) cells)) (refused OutputShort cells) → length bytes ≤ length after
    go true p = rw (ap cells_of p, length-append bytes (drop (length bytes) cells)) (omega arith)
    go false p = absurd (subst IsWrote p tt)

-- the cells after an answer: as many as before
pub same-room : (x : Result Replay Rejection) (r : ℕ) (after cells : List ℕ) → reply r after ≡ replayed_into x cells → length after ≡ length cells
unfolding replayed_into answered writes
same-room (Ok s) r after cells p = go (leb (length (state_bytes s)) (length cells)) refl p
  where
    go : (b : Bool) → leb (length (state_bytes s)) (length cells) ≡ b
        → reply r after ≡ numbered (cond b (wrote (length (state_bytes s)) (state_bytes s ++ drop (length (state_bytes s)) cells)) (refused OutputShort cells)) → length after ≡ length cells
    go true h q =
        let f = leb-true (length (state_bytes s)) (length cells) h in
        rw (ap cells_in q, length-append (state_bytes s) (drop (length (state_bytes s)) cells), length-drop (length (state_bytes s)) cells) (omega arith)
    go false h q = ap length (ap cells_in q)
same-room (Err e) r after cells p = ap length (ap cells_in p)

-- a refused record leaves the cells
kept-cells : (e : Rejection) (r : ℕ) (after cells : List ℕ) → reply r after ≡ replayed_into (Err e) cells → after ≡ cells
unfolding replayed_into
kept-cells e r after cells p = ap cells_in p

-- the answer to a record that is turned down
module _ {x : Result Replay Rejection} {e : Rejection} (q : Err e ≡ x) {n i r : ℕ} (is-n : n ≡ rejection_number e) (is-i : i ≡ rejection_id e) where
  pub turned : r ≡ with_id n i → (cells : List ℕ) → reply r cells ≡ replayed_into x cells
  unfolding replayed_into
  turned p cells = rw (← q, ← is-n, ← is-i, p)

  pub told-of : Told r n i → Told r (replayed_number x) (replayed_id x)
  unfolding replayed_number replayed_id
  told-of t = rw (← q, ← is-n, ← is-i) t

-- and it is not 0
pub turned-some : (e : Rejection) {n i r : ℕ} → n ≡ rejection_number e → Told r n i → r ≡ 0 → ⊥
unfolding rejection_number
turned-some (Refused e) {n = n} p t z = let k : n ≡ 0 = omega (arith, t.number_is, z) in number-some e (sym p ∙ k)
turned-some (Mismatch id) {n = n} p t z = let k : n ≡ 0 = omega (arith, t.number_is, z) in number-some EntryDiffers (sym p ∙ k)

-- the state after an accepted record is written
pub accepted-into : {x : Result Replay Rejection} {s : Replay} → Ok s ≡ x → (cells : List ℕ) → numbered (writes (state_bytes s) cells) ≡ replayed_into x cells
unfolding replayed_into
accepted-into q cells = rw (← q)

-- an accepted record is answered by 0
pub told-none : {x : Result Replay Rejection} {s : Replay} {r : ℕ} → Ok s ≡ x → r ≡ 0 → Told r (replayed_number x) (replayed_id x)
unfolding replayed_number replayed_id
told-none q z = rw (← q, z) (record { number_is = refl; id-is = refl })

none : {x : Result Replay Rejection} {s : Replay} {r : ℕ} → x ≡ Ok s → Told r (replayed_number x) (replayed_id x) → r ≡ 0
unfolding replayed_number replayed_id
none {r = r} q t = let u : Told r 0 0 = subst (λ (y : Result Replay Rejection). Told r (replayed_number y) (replayed_id y)) q t in omega (arith, u.number_is, u.id-is)

-- one call: the next state is read, and the cells are still enough
module _ (before rec : List ℕ) (r : ℕ) (after : List ℕ) (p : Replays before rec r after) (f : 95 ≤ length before) where
  pub call-reads : state_at after 0 ≡ state_by (state_at before 0) rec
  unfolding state_by
  call-reads = go (replay_of (state_at before 0) rec) refl
    where
      go : (x : Result Replay Rejection) → replay_of (state_at before 0) rec ≡ x → state_at after 0 ≡ result_unwrap_or x (state_at before 0)
      go (Ok s) q = ap (λ (x : Result Replay Rejection). result_unwrap_or x (state_at before 0)) (sym (p.next-reads (none q (p.told f))) ∙ q)
      go (Err e) q = ap (λ (cells : List ℕ). state_at cells 0) (kept-cells e r after before (p.answers ∙ ap (λ (x : Result Replay Rejection). replayed_into x before) q))

  pub call-room : 95 ≤ length after
  call-room = rw (same-room _ r after before p.answers) f

-- calls one after another
pub calls-on : (recs : List (List ℕ)) (s : Replay) (cells last : List ℕ) → 95 ≤ length cells → state_at cells 0 ≡ s → CallsOn cells recs last → state_at last 0 ≡ state_after s recs
unfolding state_after
calls-on [] s cells last f e q = ap (λ (cells : List ℕ). state_at cells 0) q ∙ e
calls-on (rec ∷ recs) s cells last f e q =
    let p = q.2 in
    calls-on recs (state_by s rec) q.1 last (call-room cells rec q.0 q.1 p f) (call-reads cells rec q.0 q.1 p f ∙ ap (λ (u : Replay). state_by u rec) e) q.3
