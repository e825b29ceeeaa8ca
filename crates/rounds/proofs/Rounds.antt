-- After every list of records the table's entries 121, 122 and 123 are the book's.
-- Assumes nothing.
use mathlib.Core.Path.{◌≡◌, refl, sym, ap₂, ◌∙◌, subst}
use mathlib.Core.Bool.{Bool, true}
use mathlib.Core.List.{List, [], ◌∷◌}
use Prim.Native.Nat.{ℕ, ◌+◌, ◌*◌, ◌%◌, ◌^◌, ◌<◌, ◌≤◌}
use native.Mathlib.Omega.{arith}
use native.Mathlib.Nat.{add-mod_right}
use lib.IntN.{pos}
use lib.ListN.{length}
use Rattle.voting.specs.declared.settings.VotingConfig.{VotingConfig}
use Rattle.std.specs.Prelude.{Some}
use Rattle.voting.specs.declared.table.Fork.{Fork}
use Rattle.codec.specs.Check.{passed}
use Rattle.voting.specs.Settings.{voting_length, vote_epochs, activation_epochs, fork_limit}
use Rattle.voting.specs.ForkCheck.{check_round}
use Rattle.voting.specs.Tally.{headers, seeded, entries, first_count}
use Rattle.voting.specs.Header.{soft_fork_vote, AllLegal}
use Rattle.rounds.specs.Epochs.{boundary_votes, counted, forced_version}
use Rattle.rounds.specs.Book.{Round, idle, since, Book, book_add, book_rise, book_close, book_open, book_take, book_step, book_run}
use Rattle.rounds.specs.Replay.{Answer, refused, accepted, Replay, after, call, run, calls, Lawful}
use Rattle.rounds.specs.Claim.{entries_for, Sound}
use Rattle.rounds.proofs.ForkPart.{fork_left, fork-running, fork-idle, silent}
use Rattle.rounds.proofs.BookAt.{add_at, rise-at, close_at}
use Rattle.rounds.proofs.Counted.{brought, counted-most}
use Rattle.rounds.proofs.Invariant.{Open, InvR, force-low, quiet-votes, opened, next-running}

pub record Inv (g : VotingConfig) (f : Fork) (next : ℕ) (c : ℕ) (r : Round) (v : ℕ) (before : List ℕ) : Type 0 where
  pub table : f ≡ entries_for r v
  pub tallied : c ≡ counted before
  pub few : counted before ≤ voting_length g
  pub mult : next % voting_length g ≡ 0
  pub rounds : InvR g r v next (counted before)

-- the new round and version
abbrev pub round' : VotingConfig → ℕ → Bool → ℕ → Round → Round
round' g h vote c r = book_open h vote (book_close g h (book_add g h c r))

abbrev pub version' : VotingConfig → ℕ → ℕ → Round → ℕ → ℕ
version' g h c r v = forced_version g h (book_rise g h (book_add g h c r) v)

-- what one accepted record does to the fork entries and to the rounds' invariant
abbrev Taken : VotingConfig → List ℕ → ℕ → Round → ℕ → ℕ → Type 0
Taken g xs c r v h =
    (fork_left g h (boundary_votes xs) c (entries_for r v) ≡ entries_for (round' g h (boundary_votes xs) c r) (version' g h c r v))
    × InvR g (round' g h (boundary_votes xs) c r) (version' g h c r v) (h + voting_length g) (counted xs)

module _ (g : VotingConfig) (sound : Sound g) (c : ℕ) (few : c ≤ voting_length g) (xs : List ℕ) where
  taken-idle : (v h : ℕ) → 2 * v ≤ 510 + h → h + voting_length g ≤ 2 ^ 31 → h % voting_length g ≡ 0 → Taken g xs c idle v h
  unfolding book_add book_close book_rise
  taken-idle v h b room mult =
      let p = sound.length-positive in (
        fork-idle g sound h c v (boundary_votes xs) (omega arith) mult (omega arith),
        opened g sound h (forced_version g h v) (counted xs) (boundary_votes xs) (force-low g h v (510 + h) b (omega arith)),
      )

  taken_at : (S n v j : ℕ) → n + S + voting_length g ≤ S + voting_length g * j → S + voting_length g * j + voting_length g ≤ 2 ^ 31
      → j ≤ vote_epochs g + activation_epochs g + 1 → (vote_epochs g + 1 < j → fork_limit g < n) → (vote_epochs g < j → c ≡ 0)
      → (j ≤ vote_epochs g + activation_epochs g → 2 * v ≤ 510 + S) → 2 * v ≤ 512 + S
      → (boundary_votes xs ≡ true → check_round g (S + voting_length g * j) (Some (pos S)) (Some (pos n)) ≡ passed)
      → Taken g xs c (since S n) v (S + voting_length g * j)
  taken_at S n v j room top last late quiet low high check =
      let p = sound.length-positive in (
        fork-running g sound S j n c v (boundary_votes xs) (omega arith) (omega arith) (omega arith) last
            (λ q. let l = late q in omega arith) quiet,
        rw (add_at g sound S j n c quiet, rise-at g sound S j (c + n) v, close_at g sound S j (c + n))
            (next-running g sound S j n c v (counted xs) (boundary_votes xs) few room last late quiet low high
            (λ lo hi won. quiet-votes xs (silent g sound S j n (boundary_votes xs) check lo hi won))),
      )

  taken-open : (S n v h : ℕ) → Open g S n v h c → h + voting_length g ≤ 2 ^ 31
      → (boundary_votes xs ≡ true → check_round g h (Some (pos S)) (Some (pos n)) ≡ passed) → Taken g xs c (since S n) v h
  taken-open S n v h o top check =
      subst
      (λ (m : ℕ).
      n + S + voting_length g ≤ m → m + voting_length g ≤ 2 ^ 31 → (boundary_votes xs ≡ true → check_round g m (Some (pos S)) (Some (pos n)) ≡ passed)
      → Taken g xs c (since S n) v m)
      (sym o.is_at)
      (λ room top check. taken_at S n v o.j room top o.last o.late o.quiet o.low o.high check)
      o.room top check

  taken-round : (r : Round) (v h : ℕ) → InvR g r v h c → h + voting_length g ≤ 2 ^ 31 → h % voting_length g ≡ 0
      → (boundary_votes xs ≡ true → check_round g h (entries_for r v).start (entries_for r v).votes ≡ passed) → Taken g xs c r v h
  taken-round idle v h i top mult check = taken-idle v h i top mult
  taken-round (since S n) v h i top mult check = taken-open S n v h i top check

-- the invariant goes on over an accepted record
take : (g : VotingConfig) → Sound g → (f f' : Fork) (next : ℕ) (c : ℕ) (r : Round) (v : ℕ) (before xs : List ℕ)
    → Inv g f next c r v before → next + voting_length g ≤ 2 ^ 31 → length xs ≡ 3 * voting_length g → AllLegal (headers xs)
    → (boundary_votes xs ≡ true → check_round g next f.start f.votes ≡ passed)
    → f' ≡ fork_left g next (boundary_votes xs) c f
    → Inv g f' (next + voting_length g) (first_count (pos soft_fork_vote) (entries (seeded xs))) (round' g next (boundary_votes xs) (counted before) r)
    (version' g next (counted before) r v) xs
take g sound f f' next c r v before xs i top long legal check e =
    let t : Taken g xs (counted before) r v next =
    taken-round g sound (counted before) i.few xs r v next i.rounds top i.mult (rw i.table at check)
    in
    record {
      table = e ∙ ap₂ (λ (a : Fork) (k : ℕ). fork_left g next (boundary_votes xs) k a) i.table i.tallied ∙ t.0;
      tallied = brought xs (voting_length g) long legal;
      few = counted-most xs (voting_length g) long;
      mult = add-mod_right next (voting_length g) ∙ i.mult;
      rounds = t.1;
    }

-- ---- the induction

abbrev pub InvS : (g : VotingConfig) (m : Replay) → m.State → Book → Type 0
InvS g m s b = Inv g (m.fork s) (m.next s) (m.fork_votes s) b.round b.version b.before

module _ (g : VotingConfig) (sound : Sound g) (m : Replay) (lawful : Lawful g m) where
  pub keeps : (s : m.State) (b : Book) (r : m.Record) → InvS g m s b → (a : Answer m.State) → m.step s r ≡ a
      → InvS g m (after m s a) (book_step g b (call m r a))
  unfolding book_step book_take
  keeps s b r i (refused n) e = i
  keeps s b r i (accepted t) e =
      let x = lawful s r t e in
      let here : Inv g (m.fork s) (m.height r) (m.fork_votes s) b.round b.version b.before =
      subst (λ (k : ℕ). Inv g (m.fork s) k (m.fork_votes s) b.round b.version b.before) (sym x.height) i
      in
      let done =
      take g sound (m.fork s) (m.fork t) (m.height r) (m.fork_votes s) b.round b.version b.before (m.votes r) here
      x.top x.long x.legal x.check x.part
      in
      rw (x.next, x.brings) done

  pub keeps-all : (s : m.State) (b : Book) (rs : List m.Record) → InvS g m s b
      → InvS g m (run m s rs) (book_run g b (calls m s rs))
  unfolding run calls book_run
  keeps-all s b [] i = i
  keeps-all s b (r ∷ rs) i =
      keeps-all (after m s (m.step s r)) (book_step g b (call m r (m.step s r))) rs (keeps s b r i (m.step s r) refl)
