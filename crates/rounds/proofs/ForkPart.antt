-- The fork entries after a boundary, from those of an open round or of none: they are the book's.
-- Assumes nothing.
use mathlib.Core.Path.{◌≡◌, refl, ap, ◌∙◌}
use mathlib.Core.Bool.{Bool, true, false, not, cond, ◌&&◌, ◌||◌, or-true, and-false}
use Prim.Native.Nat.{ℕ, ◌+◌, ◌*◌, ◌%◌, ◌^◌, ◌<◌, ◌≤◌}
use native.Mathlib.Omega.{arith}
use borrow.Author.Tests.{ltb-true, ltb-false, leb-true, leb-false, eqb-true, lt-ltb, le-leb, eq-eqb, ne_eqb}
use lib.Dec.{leb, ltb, eqb}
use lib.IntN.{pos}
use Rattle.voting.specs.declared.settings.VotingConfig.{VotingConfig}
use Rattle.std.specs.Prelude.{Result, Ok, Err, None, Some}
use Rattle.voting.specs.declared.table.Fork.{Fork}
use Rattle.voting.specs.declared.fork.Phase.{Phase}
use Rattle.codec.specs.declared.refusal.Refusal.{Refusal}
use Rattle.codec.specs.declared.refusal.Refusal.TheVariants.{ForkVoteBarred}
use Rattle.codec.specs.Check.{passed}
use Rattle.codec.specs.Signed.{wrapped}
use Rattle.voting.specs.Common.{eq_z}
use Rattle.voting.specs.Settings.{voting_length, vote_epochs, activation_epochs, version2_height, fork_limit, soft_fork_approved}
use Rattle.voting.specs.Table.{fork_entries}
use Rattle.voting.specs.ForkCheck.{epochs_after, between, barred, check_round}
use Rattle.voting.specs.ForkPart.{phase_at, fork_total, closes_late, closes_early, restarts, rises, one_more, version_by, five_steps, round_steps, two_for_one, forced, finished, running, opening, by_start, fork_part}
use Rattle.rounds.specs.Epochs.{forced_version}
use Rattle.rounds.specs.Book.{idle, since, book_add, book_rise, book_close, book_open}
use Rattle.rounds.specs.Claim.{entries_for, Sound}
use Rattle.rounds.specs.Replay.{fork_after}
use Rattle.voting.proofs.Laws.Tests.{by-test}
use Rattle.voting.proofs.Laws.Fork.{begun-is, steps-are}
use Rattle.rounds.proofs.BookAt.{add_at, rise-at, close_at}
use Rattle.rounds.proofs.Scaled.{eqb-scaled, leb-scaled, ltb-scaled, wrap-small}

-- the version after the rise and the forced step
version-small : (rose at : Bool) (v : ℕ) → v + 1 < 2 ^ 31
    → cond at (two_for_one (cond rose (one_more (pos v)) (pos v))) (cond rose (one_more (pos v)) (pos v)) ≡ pos (cond (at && eqb (cond rose (v + 1) v) 1) 2 (cond rose (v + 1) v))
unfolding two_for_one one_more eq_z
version-small true true v h = rw (wrap-small (v + 1) h) (go (eqb (v + 1) 1))
  where
    go : (t : Bool) → cond t (pos 2) (pos (v + 1)) ≡ pos (cond t 2 (v + 1))
    go true = refl
    go false = refl
version-small true false v h = rw (wrap-small (v + 1) h)
version-small false true v h = go (eqb v 1)
  where
    go : (t : Bool) → cond t (pos 2) (pos v) ≡ pos (cond t 2 v)
    go true = refl
    go false = refl
version-small false false v h = refl

-- The entries by the tests on the height
abbrev entries_after : (late early voting rising vote approved at : Bool) → ℕ → ℕ → ℕ → ℕ → ℕ → Fork
entries_after late early voting rising vote approved at h T s n v =
    let restart = vote && (late || (early && not approved)) in
    fork_entries
    (cond voting (Some (pos T)) (cond restart (Some (pos 0)) (cond (early && not approved) None (cond (late && approved) None (Some (pos n))))))
    (cond restart (Some (wrapped 32 (pos h))) (cond (early && not approved) None (cond (late && approved) None (Some (pos s)))))
    (Some (pos (cond (at && eqb (cond (rising && approved) (v + 1) v) 1) 2 (cond (rising && approved) (v + 1) v))))

module _ (h s n T v : ℕ) (at : Bool) (low : h < 2 ^ 31) where
  -- k at most V
  voting-on : (rising vote approved : Bool)
      → entries_after false false true rising vote approved at h T s n v
      ≡ entries_for (since s T) (cond (at && eqb (cond (rising && approved) (v + 1) v) 1) 2 (cond (rising && approved) (v + 1) v))
  voting-on rising true approved = refl
  voting-on rising false approved = refl

  -- it ends: one opens where the boundary votes
  failed : (late rising vote : Bool)
      → entries_after late true false rising vote false at h T s n v
      ≡ entries_for (book_open h vote idle) (cond (at && eqb (cond (rising && false) (v + 1) v) 1) 2 (cond (rising && false) (v + 1) v))
  unfolding book_open
  failed true true true = rw (wrap-small h low)
  failed true true false = refl
  failed true false true = rw (wrap-small h low)
  failed true false false = refl
  failed false true true = rw (wrap-small h low)
  failed false true false = refl
  failed false false true = rw (wrap-small h low)
  failed false false false = refl

  ended : (early vote : Bool)
      → entries_after true early false false vote true at h T s n v ≡ entries_for (book_open h vote idle) (cond (at && eqb v 1) 2 v)
  unfolding book_open
  ended true true = rw (wrap-small h low)
  ended true false = refl
  ended false true = rw (wrap-small h low)
  ended false false = refl

  abbrev version_then : Bool → ℕ
  version_then rising = cond (at && eqb (cond (rising && true) (v + 1) v) 1) 2 (cond (rising && true) (v + 1) v)

  waiting : (early rising vote : Bool) → n ≡ T → entries_after false early false rising vote true at h T s n v ≡ entries_for (since s T) (version_then rising)
  waiting true rising true q = ap (λ (m : ℕ). entries_for (since s m) (version_then rising)) q
  waiting true rising false q = ap (λ (m : ℕ). entries_for (since s m) (version_then rising)) q
  waiting false rising true q = ap (λ (m : ℕ). entries_for (since s m) (version_then rising)) q
  waiting false rising false q = ap (λ (m : ℕ). entries_for (since s m) (version_then rising)) q

-- the fork entries that a boundary leaves
abbrev pub fork_left : VotingConfig → ℕ → Bool → ℕ → Fork → Fork
fork_left g h vote c f = fork_after f (fork_part g h vote c f)

-- An open round at its boundary S + L·j, with n votes collected and c in the epoch before
module _ (g : VotingConfig) (sound : Sound g) (S j n c v : ℕ) (vote : Bool)
    (height : S + voting_length g * j < 2 ^ 31) (total : c + n < 2 ^ 31) (small : v + 1 < 2 ^ 31)
    (last : j ≤ vote_epochs g + activation_epochs g + 1) (late : vote_epochs g + 1 < j → fork_limit g < c + n) (quiet : vote_epochs g < j → c ≡ 0) where
  phase-is : phase_at g (S + voting_length g * j) (pos S)
      ≡ record { late = eqb j (vote_epochs g + activation_epochs g + 1); early = eqb j (vote_epochs g + 1); voting = leb j (vote_epochs g); rising = eqb j (vote_epochs g + activation_epochs g) }
  unfolding phase_at epochs_after eq_z
  phase-is = simp (eqb-scaled (voting_length g) S sound.length-positive, leb-scaled (voting_length g) S sound.length-positive)

  -- the boundary is the version-2 height
  abbrev forcing : Bool
  forcing = eqb (S + voting_length g * j) (version2_height g)

  abbrev phase_here : Phase
  phase_here = record { late = eqb j (vote_epochs g + activation_epochs g + 1); early = eqb j (vote_epochs g + 1); voting = leb j (vote_epochs g); rising = eqb j (vote_epochs g + activation_epochs g) }

  abbrev approved : Bool
  approved = ltb (fork_limit g) (c + n)

  part-is : fork_part g (S + voting_length g * j) vote c (entries_for (since S n) v)
      ≡ finished g (S + voting_length g * j) (round_steps phase_here vote approved (pos (c + n))) (five_steps phase_here vote approved (pos (c + n)) (S + voting_length g * j) (entries_for (since S n) v))
  unfolding fork_part by_start running fork_total soft_fork_approved
  part-is =
      rw (
        ne_eqb (voting_length g) 0 (λ q. let p = sound.length-positive in omega arith),
        sound.moderate,
        wrap-small (c + n) total,
        phase-is,
      )

  after_is : fork_left g (S + voting_length g * j) vote c (entries_for (since S n) v)
      ≡ entries_after (eqb j (vote_epochs g + activation_epochs g + 1)) (eqb j (vote_epochs g + 1)) (leb j (vote_epochs g)) (eqb j (vote_epochs g + activation_epochs g)) vote approved forcing (S + voting_length g * j) (c + n) S n v
  unfolding finished forced version_by restarts closes_early closes_late rises
  after_is =
      ap (fork_after (entries_for (since S n) v)) part-is
      ∙ ap (λ (f : Result Fork Refusal). fork_after (entries_for (since S n) v) (finished g (S + voting_length g * j) (round_steps phase_here vote approved (pos (c + n))) f))
      (steps-are phase_here vote approved (pos (c + n)) (S + voting_length g * j) (Some (pos n)) (Some (pos S)) (pos v))
      ∙ rw (version-small (eqb j (vote_epochs g + activation_epochs g) && approved) forcing v small)

  phase : entries_after (eqb j (vote_epochs g + activation_epochs g + 1)) (eqb j (vote_epochs g + 1)) (leb j (vote_epochs g)) (eqb j (vote_epochs g + activation_epochs g)) vote (ltb (fork_limit g) (c + n)) forcing (S + voting_length g * j) (c + n) S n v
      ≡ entries_for
      (book_open (S + voting_length g * j) vote
      (cond ((eqb j (vote_epochs g + 1) && not (ltb (fork_limit g) (c + n))) || eqb j (vote_epochs g + activation_epochs g + 1)) idle
      (since S (c + n))))
      (forced_version g (S + voting_length g * j) (cond (eqb j (vote_epochs g + activation_epochs g) && ltb (fork_limit g) (c + n)) (v + 1) v))
  unfolding book_open forced_version
  phase =
      by-test (leb j (vote_epochs g))
      (λ e4.
      let le = leb-true j (vote_epochs g) e4 in
      let e1 : eqb j (vote_epochs g + activation_epochs g + 1) ≡ false = ne_eqb j (vote_epochs g + activation_epochs g + 1) (λ q. omega arith) in
      let e2 : eqb j (vote_epochs g + 1) ≡ false = ne_eqb j (vote_epochs g + 1) (λ q. omega arith) in
      simp (e4, e1, e2)
      (voting-on (S + voting_length g * j) S n (c + n) v forcing height (eqb j (vote_epochs g + activation_epochs g)) vote (ltb (fork_limit g) (c + n))))
      (λ e4.
      let gt = leb-false j (vote_epochs g) e4 in
      by-test (ltb (fork_limit g) (c + n))
      (λ ap'.
      by-test (eqb j (vote_epochs g + activation_epochs g + 1))
      (λ e1.
      let eq = eqb-true j (vote_epochs g + activation_epochs g + 1) e1 in
      let e5 : eqb j (vote_epochs g + activation_epochs g) ≡ false = ne_eqb j (vote_epochs g + activation_epochs g) (λ q. omega arith) in
      simp (e4, ap', e1, e5, or-true)
      (ended (S + voting_length g * j) S n (c + n) v forcing height (eqb j (vote_epochs g + 1)) vote))
      (λ e1.
      let z = quiet gt in
      let same : n ≡ c + n = omega arith in
      by-test (eqb j (vote_epochs g + 1))
      (λ e2. simp (e4, ap', e1, e2) (waiting (S + voting_length g * j) S n (c + n) v forcing height true (eqb j (vote_epochs g + activation_epochs g)) vote same))
      (λ e2. simp (e4, ap', e1, e2) (waiting (S + voting_length g * j) S n (c + n) v forcing height false (eqb j (vote_epochs g + activation_epochs g)) vote same))))
      (λ ap'.
      let le = ltb-false (fork_limit g) (c + n) ap' in
      let e2 : eqb j (vote_epochs g + 1) ≡ true =
      eq-eqb j (vote_epochs g + 1)
      (by-test (ltb (vote_epochs g + 1) j)
      (λ t. let m = late (ltb-true (vote_epochs g + 1) j t) in absurd (let f : ⊥ = omega arith in f))
      (λ t. let m = ltb-false (vote_epochs g + 1) j t in omega arith))
      in
      simp (e4, ap', e2)
      (failed (S + voting_length g * j) S n (c + n) v forcing height (eqb j (vote_epochs g + activation_epochs g + 1)) (eqb j (vote_epochs g + activation_epochs g))
      vote)))

  -- the fork part of an open round is the book's
  pub fork-running : fork_left g (S + voting_length g * j) vote c (entries_for (since S n) v)
      ≡ entries_for (book_open (S + voting_length g * j) vote (book_close g (S + voting_length g * j) (book_add g (S + voting_length g * j) c (since S n))))
      (forced_version g (S + voting_length g * j) (book_rise g (S + voting_length g * j) (book_add g (S + voting_length g * j) c (since S n)) v))
  fork-running =
      rw (add_at g sound S j n c quiet, rise-at g sound S j (c + n) v, close_at g sound S j (c + n)) (after_is ∙ phase)

-- and with no round open
idle-is : (g : VotingConfig) → Sound g → (h c v : ℕ) (vote : Bool) → h % voting_length g ≡ 0
    → fork_part g h vote c (entries_for idle v)
    ≡ finished g h (record { opened = vote && true; closed = false; rose = false; total = None }) (Ok (fork_entries (cond (vote && true) (Some (pos 0)) None) (cond (vote && true) (Some (wrapped 32 (pos h))) None) (Some (pos v))))
unfolding fork_part by_start opening
idle-is g sound h c v vote mult =
    rw (
      ne_eqb (voting_length g) 0 (λ q. let p = sound.length-positive in omega arith),
      sound.moderate,
      eq-eqb (h % voting_length g) 0 mult,
      begun-is (vote && true) h None None (Some (pos v)),
    )

pub fork-idle : (g : VotingConfig) → Sound g → (h c v : ℕ) (vote : Bool) → h < 2 ^ 31 → h % voting_length g ≡ 0 → v + 1 < 2 ^ 31
    → fork_left g h vote c (entries_for idle v) ≡ entries_for (book_open h vote idle) (forced_version g h v)
unfolding finished forced version_by forced_version book_open
fork-idle g sound h c v false low mult small =
    ap (fork_after (entries_for idle v)) (idle-is g sound h c v false mult) ∙ rw (version-small false (eqb h (version2_height g)) v small)
fork-idle g sound h c v true low mult small =
    ap (fork_after (entries_for idle v)) (idle-is g sound h c v true mult) ∙ rw (version-small false (eqb h (version2_height g)) v small, wrap-small h low)

-- a fork vote in the epochs V to V + A of a round is barred
bars : (g : VotingConfig) → Sound g → (S j n : ℕ) → vote_epochs g ≤ j → j < vote_epochs g + activation_epochs g + 1
    → (vote_epochs g < j → fork_limit g < n) → check_round g (S + voting_length g * j) (Some (pos S)) (Some (pos n)) ≡ Err ForkVoteBarred
unfolding check_round barred between epochs_after soft_fork_approved
bars g sound S j n lo hi late =
    simp (leb-scaled (voting_length g) S sound.length-positive, ltb-scaled (voting_length g) S sound.length-positive, le-leb (vote_epochs g) j lo)
    (by-test (ltb (fork_limit g) n) (λ ap'. simp (ap', lt-ltb j (vote_epochs g + activation_epochs g + 1) hi, and-false))
    (λ ap'.
    let le = ltb-false (fork_limit g) n ap' in
    let here : j < vote_epochs g + 1 =
    by-test (ltb (vote_epochs g) j)
    (λ t. let m = late (ltb-true (vote_epochs g) j t) in absurd (let f : ⊥ = omega arith in f))
    (λ t. let m = ltb-false (vote_epochs g) j t in omega arith)
    in
    simp (ap', lt-ltb j (vote_epochs g + 1) here)))

pub silent : (g : VotingConfig) → Sound g → (S j n : ℕ) (vote : Bool)
    → (vote ≡ true → check_round g (S + voting_length g * j) (Some (pos S)) (Some (pos n)) ≡ passed)
    → vote_epochs g ≤ j → j < vote_epochs g + activation_epochs g + 1 → (vote_epochs g < j → fork_limit g < n) → vote ≡ false
silent g sound S j n false e lo hi late = refl
silent g sound S j n true e lo hi late = let a = e refl in let b = bars g sound S j n lo hi late in cc
