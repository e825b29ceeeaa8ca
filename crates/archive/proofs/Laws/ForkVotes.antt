-- The fork check of the headers that are left, one at a time, and of headers that need no look.
-- Assumes nothing.
use mathlib.Core.Path.{◌≡◌, refl, sym, ap, ◌∙◌}
use mathlib.Core.Bool.{true, false}
use mathlib.Core.List.{List, [], ◌∷◌, ◌++◌}
use Prim.Native.Nat.{ℕ, ◌+◌, ◌/◌, ◌≤◌, ◌<◌}
use native.Mathlib.Omega.{arith}
use lib.Dec.{eqb}
use lib.ListN.{length, get_or, length-append}
use Rattle.std.specs.Prelude.{Ok, Err, ⊤}
use Rattle.codec.specs.declared.refusal.Refusal.{Refusal}
use Rattle.codec.specs.Check.{Check, passed}
use Rattle.voting.specs.declared.settings.VotingConfig.{VotingConfig}
use Rattle.voting.specs.declared.table.Table.{Table}
use Rattle.counting.specs.Count.{count}
use Rattle.voting.specs.Settings.{settings_large}
use Rattle.voting.specs.Header.{soft_fork_vote, votes_for}
use Rattle.voting.specs.Tally.{headers}
use Rattle.voting.specs.ForkCheck.{check_fork_vote, votes_open}
use Rattle.voting.proofs.Laws.Tests.{and-stop, and-pass}
use Rattle.voting.proofs.Laws.Fork.{open-allows}
use Rattle.headers.proofs.Laws.Headers.{few, headers-first}
use Rattle.archive.specs.ForkVotes.{check_each_vote}

module _ (g : VotingConfig) (t : Table) (height : ℕ) where
  -- no header in less than three bytes
  pub forks-none : (s : List ℕ) → length s < 3 → passed ≡ check_each_vote g t height (headers s)
  unfolding check_each_vote
  forks-none s h = rw (few s h)

  -- the header in the first three bytes, and the bytes behind it
  module _ (h rest : List ℕ) (three : length h ≡ 3) {all : List ℕ} (is_all : all ≡ h ++ rest)
      {r : Check} (is-r : r ≡ check_fork_vote g height (get_or h 0 0 ∷ get_or h 1 0 ∷ get_or h 2 0 ∷ []) t) where
    pub fork-stop : {e : Refusal} → r ≡ Err e → Err e ≡ check_each_vote g t height (headers all)
    unfolding check_each_vote
    fork-stop q = rw (headers-first h rest three is_all, ← is-r) (sym (and-stop _ _ q))

    pub fork-pass : {x : ⊤} → r ≡ Ok x → check_each_vote g t (height + 1) (headers rest) ≡ check_each_vote g t height (headers all)
    unfolding check_each_vote
    fork-pass q = rw (headers-first h rest three is_all, ← is-r) (sym (and-pass _ _ q))

-- three bytes less hold one header less
pub room-behind : (height limit : ℕ) (h rest : List ℕ) → length h ≡ 3 → {all : List ℕ} → all ≡ h ++ rest → height + length all / 3 ≤ limit → height + 1 + length rest / 3 ≤ limit
room-behind height limit h rest three is_all room = omega (arith, ap length is_all ∙ length-append h rest)

-- without a vote for the fork every header is allowed
quiet-header : (g : VotingConfig) (height : ℕ) (h : List ℕ) (t : Table) → settings_large g ≡ false → count (eqb soft_fork_vote) h ≡ 0 → check_fork_vote g height h t ≡ passed
unfolding check_fork_vote votes_for
quiet-header g height h t l z = rw (l, z)

pub quiet-forks : (g : VotingConfig) (t : Table) → settings_large g ≡ false → (votes : List ℕ) (height : ℕ) → count (eqb soft_fork_vote) votes ≡ 0 → passed ≡ check_each_vote g t height (headers votes)
unfolding check_each_vote headers count
quiet-forks g t l [] height z = refl
quiet-forks g t l (a ∷ []) height z = refl
quiet-forks g t l (a ∷ b ∷ []) height z = refl
quiet-forks g t l (a ∷ b ∷ c ∷ votes) height z =
    let q = quiet-header g height (a ∷ b ∷ c ∷ []) t l (omega (arith, z)) in
    rw q (quiet-forks g t l votes (height + 1) (omega (arith, z)))

-- where every header below a height is allowed, so are all that stand below it
pub open-forks : (g : VotingConfig) (t : Table) (end : ℕ) → votes_open g end t ≡ true → (votes : List ℕ) (height : ℕ) → height + length votes / 3 ≤ end → passed ≡ check_each_vote g t height (headers votes)
unfolding check_each_vote headers
open-forks g t end o [] height h = refl
open-forks g t end o (a ∷ []) height h = refl
open-forks g t end o (a ∷ b ∷ []) height h = refl
open-forks g t end o (a ∷ b ∷ c ∷ votes) height h =
    let q = open-allows g end t o height (a ∷ b ∷ c ∷ []) (omega arith) in
    rw q (open-forks g t end o votes (height + 1) (omega arith))
