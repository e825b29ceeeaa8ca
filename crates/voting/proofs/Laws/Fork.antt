-- A barred vote, a round that is open, where every vote for the fork is allowed, and the fork entries after the five steps.
-- Assumes nothing.
use Rattle.std.proofs.Common.{◌≡◌, ℕ, ◌+◌, ◌*◌, ◌<◌, Bool, true, false, cond, not, ◌&&◌, ◌||◌, ltb, leb, List, ℤ, pos, negsuc, ◌+ℤ◌, sym, refl, ap, ◌∙◌, true≢false, arith, w32, SFits, to_z, of_z, leb-true}
use mir.ValLaws.{to_z-of_z}
use borrow.Author.Tests.{lt-leb}
use lib.Signed.{le_z}
use Rattle.voting.specs.declared.settings.VotingConfig.{VotingConfig}
use Rattle.voting.specs.Value.{Value}
use Rattle.std.specs.Prelude.{None, Some, Result, Ok, Err}
use Rattle.codec.specs.declared.refusal.Refusal.{Refusal}
use Rattle.codec.specs.declared.refusal.Refusal.TheVariants.{SettingLarge}
use Rattle.codec.specs.Check.{passed}
use Rattle.voting.specs.declared.table.Fork.{Fork}
use Rattle.voting.specs.declared.table.Table.{Table}
use Rattle.voting.specs.declared.fork.Phase.{Phase}
use Rattle.voting.specs.declared.fork.Round.{Round}
use Rattle.codec.specs.Signed.{wrapped}
use Rattle.voting.specs.Settings.{voting_length, vote_epochs, activation_epochs, soft_fork_approved, settings_large}
use Rattle.voting.specs.Table.{lookup, fork_entries}
use Rattle.voting.specs.Header.{soft_fork_vote, votes_for}
use Rattle.voting.specs.ForkCheck.{epochs_after, between, barred, check_round, check_fork_vote, round_open, votes_open}
use Rattle.voting.specs.ForkPart.{fork_total, closes_late, closes_early, restarts, rises, without, begun, collected, one_more, version_by, risen, five_steps, round_steps, finished, running}
use Rattle.voting.proofs.Laws.Integers.{at_least, below}

-- ---- a barred vote, and a round that is open, as the code has them

-- a shifted height, as the code has it: the start is read back from its bits
pub plain : (g : VotingConfig) (s : ℤ) (k r : ℕ) → SFits w32 s → pos r ≡ (to_z w32 (of_z w32 s) +ℤ pos (voting_length g * k)) +ℤ pos 2147483648 → pos r ≡ epochs_after g s k +ℤ pos 2147483648
unfolding epochs_after
plain g s k r f e = e ∙ ap (λ (z : ℤ). (z +ℤ pos (voting_length g * k)) +ℤ pos 2147483648) (to_z-of_z w32 s f)

abbrev pub Shifted : VotingConfig → ℤ → ℕ → ℕ → Type 0
Shifted g s k r = pos r ≡ epochs_after g s k +ℤ pos 2147483648

pub barred-by : (g : VotingConfig) (h : ℕ) (s n : ℤ) (from early late : ℕ) (ap' : Bool)
    → Shifted g s (vote_epochs g) from → Shifted g s (vote_epochs g + 1) early → Shifted g s (vote_epochs g + activation_epochs g + 1) late → ap' ≡ soft_fork_approved g n
    → (leb from (h + 2147483648) && ltb (h + 2147483648) early && not ap') || (leb from (h + 2147483648) && ltb (h + 2147483648) late && ap') ≡ barred g h s n
unfolding barred between
barred-by g h s n from early late ap' a b c q =
    rw (at_least h from (epochs_after g s (vote_epochs g)) a, below h early (epochs_after g s (vote_epochs g + 1)) b, below h late (epochs_after g s (vote_epochs g + activation_epochs g + 1)) c, q)

-- with entry 121: the total, its approval, what happens to the round, the entries that the steps leave, and they go on
module _ (g : VotingConfig) (h : ℕ) (vote : Bool) (votes : ℕ) (old : Fork) (p : Phase) (collected : Value) where
  pub running-on : (n total : ℤ) (approved : Bool) (round : Round) (f : Result Fork Refusal) → collected ≡ Some n → total ≡ fork_total votes n → approved ≡ soft_fork_approved g total
      → round ≡ round_steps p vote approved total → f ≡ five_steps p vote approved total h old → finished g h round f ≡ running g h vote votes old p collected
  unfolding running
  running-on n total approved round f q is-t is-a is-r is_f = rw (q, is-r, is_f, is-a, is-t)

-- ---- the heights below which each vote for the fork is allowed

not_yet : (end h : ℕ) (z : ℤ) → le_z (pos end) z ≡ true → h < end → le_z z (pos h) ≡ false
not_yet end h (pos a) e b = lt-leb a h (omega (arith, leb-true end a e))
not_yet end h (negsuc a) e b = absurd (true≢false (sym e))

unbarred : (g : VotingConfig) (end h : ℕ) (s n : ℤ) → le_z (pos end) (epochs_after g s (vote_epochs g)) ≡ true → h < end → barred g h s n ≡ false
unfolding barred between
unbarred g end h s n e b = rw (not_yet end h (epochs_after g s (vote_epochs g)) e b)

round-allows : (g : VotingConfig) (end h : ℕ) (start votes : Value) → round_open g end start votes ≡ true → h < end → check_round g h start votes ≡ passed
unfolding round_open check_round
round-allows g end h None votes e b = refl
round-allows g end h (Some s) None e b = absurd (true≢false (sym e))
round-allows g end h (Some s) (Some n) e b = rw (unbarred g end h s n e b)

pub open-allows : (g : VotingConfig) (end : ℕ) (t : Table) → votes_open g end t ≡ true → (h : ℕ) (votes : List ℕ) → h < end → check_fork_vote g h votes t ≡ passed
unfolding votes_open check_fork_vote
open-allows g end t e h votes b = go (settings_large g) (votes_for soft_fork_vote votes) e
  where
    go : (large v : Bool) → (not large && round_open g end (lookup t 122) (lookup t 121)) ≡ true
        → cond large (Err SettingLarge) (cond v (check_round g h (lookup t 122) (lookup t 121)) passed) ≡ passed
    go true v e = absurd (true≢false (sym e))
    go false true e = round-allows g end h (lookup t 122) (lookup t 121) e b
    go false false e = refl

-- ---- the entries after the five steps, entry by entry, where there is a version

without_is : (closes : Bool) (votes start version : Value) → without closes (fork_entries votes start version) ≡ fork_entries (cond closes None votes) (cond closes None start) version
unfolding without
without_is true votes start version = refl
without_is false votes start version = refl

pub begun-is : (opens : Bool) (h : ℕ) (votes start version : Value)
    → begun opens h (fork_entries votes start version) ≡ fork_entries (cond opens (Some (pos 0)) votes) (cond opens (Some (wrapped 32 (pos h))) start) version
unfolding begun
begun-is true h votes start version = refl
begun-is false h votes start version = refl

collected-is : (voting : Bool) (total : ℤ) (votes start version : Value) → collected voting total (fork_entries votes start version) ≡ fork_entries (cond voting (Some total) votes) start version
unfolding collected
collected-is true total votes start version = refl
collected-is false total votes start version = refl

pub steps-are : (p : Phase) (vote approved : Bool) (total : ℤ) (h : ℕ) (votes start : Value) (z : ℤ)
    → five_steps p vote approved total h (fork_entries votes start (Some z))
    ≡ Ok
    (fork_entries
    (cond p.voting (Some total) (cond (restarts p vote approved) (Some (pos 0)) (cond (closes_early p approved) None (cond (closes_late p approved) None votes))))
    (cond (restarts p vote approved) (Some (wrapped 32 (pos h))) (cond (closes_early p approved) None (cond (closes_late p approved) None start)))
    (Some (cond (rises p approved) (one_more z) z)))
unfolding five_steps risen version_by
steps-are p vote approved total h votes start z =
    rw (without_is (closes_late p approved) votes start (Some z), without_is (closes_early p approved), begun-is (restarts p vote approved) h, collected-is p.voting total)
