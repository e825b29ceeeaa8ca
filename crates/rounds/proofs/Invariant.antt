-- The invariant that carries the round promise from record to record.
-- Assumes nothing.
use mathlib.Core.Path.{◌≡◌, refl, ap}
use mathlib.Core.Bool.{Bool, true, false, not, cond, ◌&&◌, ◌||◌, or-true, true≢false}
use mathlib.Core.List.{List}
use Prim.Native.Nat.{ℕ, ◌+◌, ◌*◌, ◌<◌, ◌≤◌}
use native.Mathlib.Omega.{arith}
use native.Mathlib.Nat.{mul-le-mul_left}
use borrow.Author.Tests.{ltb-true, eqb-true, eqb-false, ne_eqb}
use lib.Dec.{ltb, eqb}
use Rattle.voting.proofs.Laws.Tests.{by-test, both}
use Rattle.voting.specs.declared.settings.VotingConfig.{VotingConfig}
use Rattle.voting.specs.Settings.{voting_length, vote_epochs, activation_epochs, version2_height, fork_limit}
use Rattle.voting.specs.Tally.{counted_for}
use Rattle.rounds.specs.Epochs.{boundary_votes, counted, forced_version}
use Rattle.rounds.specs.Book.{Round, idle, since, book_open}
use Rattle.rounds.specs.Claim.{Sound}

-- an open round before the boundary `next`: v the version, c the votes that the epoch before brings
pub record Open (g : VotingConfig) (S n v next c : ℕ) : Type 0 where
  pub j : ℕ
  pub j_pos : 0 < j
  pub is_at : next ≡ S + voting_length g * j
  pub room : n + S + voting_length g ≤ next
  pub last : j ≤ vote_epochs g + activation_epochs g + 1
  pub late : vote_epochs g + 1 < j → fork_limit g < n
  pub quiet : vote_epochs g < j → c ≡ 0
  pub low : j ≤ vote_epochs g + activation_epochs g → 2 * v ≤ 510 + S
  pub high : 2 * v ≤ 512 + S

abbrev pub InvR : VotingConfig → Round → ℕ → ℕ → ℕ → Type 0
InvR g idle v next c = 2 * v ≤ 510 + next
InvR g (since S n) v next c = Open g S n v next c

pub force-low : (g : VotingConfig) (h v B : ℕ) → 2 * v ≤ B → 4 ≤ B → 2 * forced_version g h v ≤ B
unfolding forced_version
force-low g h v B p q = by-test (eqb h (version2_height g) && eqb v 1) (λ e. simp e (omega arith)) (λ e. simp e p)

pub quiet-votes : (xs : List ℕ) → boundary_votes xs ≡ false → counted xs ≡ 0
unfolding counted counted_for boundary_votes
quiet-votes xs e = simp e

-- opened at h, or none is open after it
pub opened : (g : VotingConfig) → Sound g → (h v c : ℕ) (vote : Bool) → 2 * v ≤ 510 + h
    → InvR g (book_open h vote idle) v (h + voting_length g) c
unfolding book_open
opened g sound h v c false b = omega arith
opened g sound h v c true b =
    record {
      j = 1;
      j_pos = omega arith;
      is_at = omega arith;
      room = omega arith;
      last = omega arith;
      late = λ q. absurd (let f : ⊥ = omega arith in f);
      quiet = λ q. absurd (let p = sound.votes-positive in let f : ⊥ = omega arith in f);
      low = λ q. b;
      high = omega arith;
    }

module _ (g : VotingConfig) (sound : Sound g) (S j n c v c' : ℕ) (vote : Bool) (few : c ≤ voting_length g)
    (room : n + S + voting_length g ≤ S + voting_length g * j)
    (last : j ≤ vote_epochs g + activation_epochs g + 1) (late : vote_epochs g + 1 < j → fork_limit g < n) (quiet : vote_epochs g < j → c ≡ 0)
    (low : j ≤ vote_epochs g + activation_epochs g → 2 * v ≤ 510 + S) (high : 2 * v ≤ 512 + S)
    (shut : vote_epochs g ≤ j → j < vote_epochs g + activation_epochs g + 1 → (vote_epochs g < j → fork_limit g < n) → c' ≡ 0) where
  -- the round stays open
  stays : (w : ℕ) → j ≤ vote_epochs g + activation_epochs g → (vote_epochs g < j → fork_limit g < c + n)
      → (j + 1 ≤ vote_epochs g + activation_epochs g → 2 * w ≤ 510 + S) → 2 * w ≤ 512 + S
      → Open g S (c + n) w (S + voting_length g * j + voting_length g) c'
  stays w to won low' high' =
      record {
        j = j + 1;
        j_pos = omega arith;
        is_at = omega arith;
        room = omega arith;
        last = omega arith;
        late = λ q. won (omega arith);
        quiet = λ q. shut (omega arith) (omega arith) (λ r. let z = quiet r in let w = won r in omega arith);
        low = low';
        high = high';
      }

  -- it closes: the next one starts two epochs later at the earliest
  closes : (w : ℕ) → 2 * w ≤ 512 + S → vote_epochs g < j
      → InvR g (book_open (S + voting_length g * j) vote idle) w (S + voting_length g * j + voting_length g) c'
  closes w le far =
      let p = sound.votes-positive in
      let two : 2 ≤ j = omega arith in
      let long = mul-le-mul_left (voting_length g) two in
      let one = sound.length-positive in
      opened g sound (S + voting_length g * j) w c' vote (omega arith)

  -- the version after the rise and the forced step
  rose : (t ap : Bool) → (t ≡ true → j ≡ vote_epochs g + activation_epochs g) → 2 * cond (t && ap) (v + 1) v ≤ 512 + S
  rose true true is = let q = is refl in let l = low (omega arith) in omega arith
  rose true false is = high
  rose false ap is = high

  before-end : eqb j (vote_epochs g + activation_epochs g + 1) ≡ false → j ≤ vote_epochs g + activation_epochs g
  before-end e = let ne = eqb-false j (vote_epochs g + activation_epochs g + 1) e in omega arith

  won : eqb j (vote_epochs g + 1) && not (ltb (fork_limit g) (c + n)) ≡ false → vote_epochs g < j → fork_limit g < c + n
  won e gt =
      by-test (eqb j (vote_epochs g + 1))
      (λ e2.
      by-test (ltb (fork_limit g) (c + n)) (ltb-true (fork_limit g) (c + n)) (λ ap. absurd (true≢false (simp (e2, ap) at e))))
      (λ e2.
      let ne = eqb-false j (vote_epochs g + 1) e2 in
      let l = late (omega arith) in
      omega arith)

  lower : j + 1 ≤ vote_epochs g + activation_epochs g
      → 2 * forced_version g (S + voting_length g * j) (cond (eqb j (vote_epochs g + activation_epochs g) && ltb (fork_limit g) (c + n)) (v + 1) v) ≤ 510 + S
  lower q =
      let e5 : eqb j (vote_epochs g + activation_epochs g) ≡ false = ne_eqb j (vote_epochs g + activation_epochs g) (λ z. omega arith) in
      simp e5 (force-low g (S + voting_length g * j) v (510 + S) (low (omega arith)) (omega arith))

  pub next-running : InvR g
      (book_open (S + voting_length g * j) vote
      (cond ((eqb j (vote_epochs g + 1) && not (ltb (fork_limit g) (c + n))) || eqb j (vote_epochs g + activation_epochs g + 1)) idle
      (since S (c + n))))
      (forced_version g (S + voting_length g * j) (cond (eqb j (vote_epochs g + activation_epochs g) && ltb (fork_limit g) (c + n)) (v + 1) v))
      (S + voting_length g * j + voting_length g) c'
  unfolding book_open
  next-running =
      let high' : 2 * forced_version g (S + voting_length g * j) (cond (eqb j (vote_epochs g + activation_epochs g) && ltb (fork_limit g) (c + n)) (v + 1) v) ≤ 512 + S =
      force-low g (S + voting_length g * j) (cond (eqb j (vote_epochs g + activation_epochs g) && ltb (fork_limit g) (c + n)) (v + 1) v) (512 + S)
      (rose (eqb j (vote_epochs g + activation_epochs g)) (ltb (fork_limit g) (c + n)) (eqb-true j (vote_epochs g + activation_epochs g))) (omega arith)
      in
      by-test (eqb j (vote_epochs g + activation_epochs g + 1))
      (λ e1.
      let is = eqb-true j (vote_epochs g + activation_epochs g + 1) e1 in
      simp (e1, or-true) (closes _ high' (omega arith)))
      (λ e1.
      by-test (eqb j (vote_epochs g + 1) && not (ltb (fork_limit g) (c + n)))
      (λ e2.
      let is = eqb-true j (vote_epochs g + 1) (both _ _ e2).0 in
      simp (e1, e2) (closes _ high' (omega arith)))
      (λ e2. simp (e1, e2) (stays _ (before-end e1) (won e2) lower high')))
