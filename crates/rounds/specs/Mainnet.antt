-- The promise on mainnet, in numbers. docs/RULES.md, "Replay".
-- Assumes nothing.
use Rattle.std.specs.Prelude.{ℕ, ◌+◌, ◌*◌, ◌<◌, ◌≤◌, min, ◌≡◌, ◌↔◌, Bool, true, cond, ◌&&◌, List, ◌∷◌, ltb, eqb, pos, length, Some}
use Rattle.voting.specs.Settings.{mainnet}
use Rattle.voting.specs.declared.table.Fork.{Fork}
use Rattle.rounds.specs.Epochs.{boundary_votes}
use Rattle.rounds.specs.Book.{book_run}
use Rattle.rounds.specs.Replay.{Replay, accepted, run, calls, epochs}
use Rattle.rounds.specs.Claim.{total, first_book, entries_by}

-- more than 29,491 votes were counted over the 32 epochs from a round's opening
abbrev pub wins : List (List ℕ) → Bool
wins es = ltb 29491 (total 32 es)

-- how long after its opening it closes
abbrev pub lasts : List (List ℕ) → ℕ
lasts es = cond (wins es) (65 * 1024) (33 * 1024)

-- a version 1 becomes 2 at 417,792
abbrev pub forced : ℕ → ℕ → ℕ
forced h v = cond (eqb h 417792 && eqb v 1) 2 v

-- A boundary at height h. A round opens there exactly when the boundary header votes 120 and none is left open; and the version does not
-- change but at S + 64×1,024 of an open round, save from 1 to 2 at 417,792.
pub record Boundary (h : ℕ) (vote : Bool) (old new : Fork) : Type 0 where
  pub opens : (new.start ≡ Some (pos h)) ↔ ((vote ≡ true) × ((S : ℕ) → old.start ≡ Some (pos S) → new.start ≡ Some (pos S) → ⊥))
  pub stays : ((S : ℕ) → old.start ≡ Some (pos S) → h ≡ S + 64 * 1024 → ⊥)
      → (v : ℕ) → old.version ≡ Some (pos v) → new.version ≡ Some (pos (forced h v))

-- A round opened at S by a record with the vote bytes e; t is the state after that record, rs the records since, h the last boundary that they
-- reach. It stands with what was counted so far while h is before S + 33×1,024, or S + 65×1,024 if it wins; from there on it is closed; and
-- at S + 64×1,024 the version rises by one exactly if it won.
pub record Life (m : Replay) (S : ℕ) (e : List ℕ) (t : m.State) (rs : List m.Record) : Type 0 where
  pub stands : (h : ℕ) → m.next (run m t rs) ≡ h + 1024 → h < S + lasts (e ∷ epochs m t rs)
      → ((m.fork (run m t rs)).start ≡ Some (pos S)) × ((m.fork (run m t rs)).votes ≡ Some (pos (total (min (length (epochs m t rs)) 32) (e ∷ epochs m t rs))))
  pub closes : (h : ℕ) → m.next (run m t rs) ≡ h + 1024 → S + lasts (e ∷ epochs m t rs) ≤ h → (m.fork (run m t rs)).start ≡ Some (pos S) → ⊥
  pub rises : (r : m.Record) (u : m.State) → m.step (run m t rs) r ≡ accepted u → m.height r ≡ S + 64 * 1024
      → (v : ℕ) → (m.fork (run m t rs)).version ≡ Some (pos v) → (m.fork u).version ≡ Some (pos (forced (m.height r) (cond (wins (e ∷ epochs m t rs)) (v + 1) v)))

-- The promise for a list of records from a state s with version v, accepted and refused ones mixed. Each accepted record raises the height by
-- 1,024. After the list 122, 121 and 123 are those of the round book. And of every further record that is accepted: its height, its boundary,
-- and the life of a round that opens there, whatever records follow.
pub record Promise (m : Replay) (s : m.State) (v : ℕ) (before : List ℕ) (rs : List m.Record) : Type 0 where
  pub heights : m.next (run m s rs) ≡ m.next s + 1024 * length (epochs m s rs)
  pub book : m.fork (run m s rs) ≡ entries_by (book_run mainnet (first_book v before) (calls m s rs))
  pub boundary : (r : m.Record) (t : m.State) → m.step (run m s rs) r ≡ accepted t
      → (m.height r ≡ m.next (run m s rs)) × Boundary (m.height r) (boundary_votes (m.votes r)) (m.fork (run m s rs)) (m.fork t)
  pub life : (r : m.Record) (t : m.State) → m.step (run m s rs) r ≡ accepted t → (m.fork t).start ≡ Some (pos (m.height r))
      → (after : List m.Record) → Life m (m.height r) (m.votes r) t after
