-- The fork part of a boundary: what entries 121, 122 and 123 become, and what happens to a round. docs/RULES.md, "Boundary".
-- Assumes nothing.
use Rattle.std.specs.Prelude.{Result, Ok, Err, ℕ, ◌+◌, ◌%◌, Bool, false, cond, not, ◌&&◌, ◌||◌, ℤ, pos, ◌+ℤ◌, ◌==◌, int_le, None, Some}
use Rattle.codec.specs.declared.refusal.Refusal.TheVariants.{VotingLengthZero, SettingLarge, VotesCollectedAbsent, BlockVersionAbsent}
use Rattle.codec.specs.Signed.{wrapped}
use Rattle.voting.specs.declared.settings.VotingConfig.{VotingConfig}
use Rattle.voting.specs.Value.{Value}
use Rattle.voting.specs.declared.table.Fork.{Fork}
use Rattle.voting.specs.declared.fork.Phase.{Phase}
use Rattle.voting.specs.declared.fork.Round.{Round}
use Rattle.codec.specs.declared.refusal.Refusal.{Refusal}
use Rattle.codec.specs.Check.{and_then}
use Rattle.voting.specs.declared.fork.ForkPart.{ForkPart}
use Rattle.voting.specs.Common.{eq_z}
use Rattle.voting.specs.Settings.{voting_length, vote_epochs, activation_epochs, version2_height, soft_fork_approved, settings_large}
use Rattle.voting.specs.Table.{fork_entries}
use Rattle.voting.specs.ForkCheck.{epochs_after}

-- nothing happens to a round
abbrev pub no_round : Round
no_round = record { opened = false; closed = false; rose = false; total = None }

-- ---- a round open, 122 = S

-- where a height stands in it: late at S+L(V+A+1), early at S+L(V+1), voting up to S+L×V, rising at S+L(V+A)
unfoldable pub phase_at : VotingConfig → ℕ → ℤ → Phase
phase_at g height start =
    record {
      late = eq_z (pos height) (epochs_after g start (vote_epochs g + activation_epochs g + 1));
      early = eq_z (pos height) (epochs_after g start (vote_epochs g + 1));
      voting = int_le (pos height) (epochs_after g start (vote_epochs g));
      rising = eq_z (pos height) (epochs_after g start (vote_epochs g + activation_epochs g));
    }

-- the first 120 entry's count and entry 121, added in signed 32-bit arithmetic that wraps
unfoldable pub fork_total : ℕ → ℤ → ℤ
fork_total votes collected = wrapped 32 (pos votes +ℤ collected)

-- a step reads the total
unfoldable pub reads_total : Phase → Bool
reads_total p = p.late || p.early || p.voting || p.rising

-- 1. At S+L(V+A+1), if the total is approved: 121 and 122 are removed.
unfoldable pub closes_late : Phase → Bool → Bool
closes_late p approved = p.late && approved

unfoldable pub without : Bool → Fork → Fork
without closes f = cond closes (fork_entries None None f.version) f

-- 2. At S+L(V+1), if it is not approved: the same.
unfoldable pub closes_early : Phase → Bool → Bool
closes_early p approved = p.early && not approved

-- 3. If the boundary votes 120, at the height of 1, or at that of 2 if the total is not approved: 122 becomes the height, wrapped to signed 32
-- bits, and 121 becomes 0.
unfoldable pub restarts : Phase → (vote approved : Bool) → Bool
restarts p vote approved = vote && (p.late || (p.early && not approved))

unfoldable pub begun : Bool → ℕ → Fork → Fork
begun opens height f = cond opens (fork_entries (Some (pos 0)) (Some (wrapped 32 (pos height))) f.version) f

-- 4. At a height of at most S+L×V: 121 becomes the total.
unfoldable pub collected : Bool → ℤ → Fork → Fork
collected voting total f = cond voting (fork_entries (Some total) f.start f.version) f

-- 5. At S+L(V+A), if it is approved: 123 rises by 1 and wraps.
unfoldable pub rises : Phase → Bool → Bool
rises p approved = p.rising && approved

-- 123 changed where it has to be: 20 if it is absent there
unfoldable pub version_by : Bool → (ℤ → ℤ) → Fork → Value → Result Fork Refusal
version_by changes next f None = cond changes (Err BlockVersionAbsent) (Ok f)
version_by changes next f (Some z) = Ok (fork_entries f.votes f.start (Some (cond changes (next z) z)))

unfoldable pub one_more : ℤ → ℤ
one_more z = wrapped 32 (z +ℤ pos 1)

unfoldable pub risen : Bool → Fork → Result Fork Refusal
risen rise f = version_by rise one_more f f.version

-- the five in order, each on the entries that the one before leaves; their conditions are on the old ones
unfoldable pub five_steps : Phase → (vote approved : Bool) → ℤ → ℕ → Fork → Result Fork Refusal
five_steps p vote approved total height old =
    risen (rises p approved)
    (collected p.voting total
    (begun (restarts p vote approved) height
    (without (closes_early p approved)
    (without (closes_late p approved) old))))

-- What happens to the round in them: one opens where 122 is set to the height; the open one closes where 122 is removed or set anew; it raises
-- the version where step 5 does; its total is stored where step 4 does.
unfoldable pub round_steps : Phase → (vote approved : Bool) → ℤ → Round
round_steps p vote approved total =
    record {
      opened = restarts p vote approved;
      closed = closes_late p approved || closes_early p approved || restarts p vote approved;
      rose = rises p approved;
      total = cond p.voting (Some total) None;
    }

-- ---- the version, and all of it

-- then, at the version-2 height, a version 1 becomes 2; 20 if there is none
unfoldable pub two_for_one : ℤ → ℤ
two_for_one z = cond (eq_z z (pos 1)) (pos 2) z

unfoldable pub forced : Bool → Fork → Result Fork Refusal
forced at f = version_by at two_for_one f f.version

-- the entries after the steps, which may be refused, and then after the forced version
unfoldable pub finished : VotingConfig → ℕ → Round → Result Fork Refusal → Result ForkPart Refusal
finished g height round f =
    and_then f (λ stepped. and_then (forced (height == version2_height g) stepped) (λ last. Ok (record { fork = last; round = round })))

-- a round open: 19 if 121 is absent where a step reads the total, and nowhere else
unfoldable pub running : VotingConfig → ℕ → Bool → ℕ → Fork → Phase → Value → Result ForkPart Refusal
running g height vote votes old p None = cond (reads_total p) (Err VotesCollectedAbsent) (finished g height no_round (Ok old))
running g height vote votes old p (Some n) =
    finished g height (round_steps p vote (soft_fork_approved g (fork_total votes n)) (fork_total votes n))
    (five_steps p vote (soft_fork_approved g (fork_total votes n)) (fork_total votes n) height old)

-- no 122: if the boundary votes 120 and its height is a multiple of L, 122 becomes the height and 121 becomes 0
unfoldable pub opening : VotingConfig → ℕ → Bool → Fork → Result ForkPart Refusal
opening g height vote old =
    finished g height (record { opened = vote && (height % voting_length g == 0); closed = false; rose = false; total = None })
    (Ok (begun (vote && height % voting_length g == 0) height old))

unfoldable pub by_start : VotingConfig → ℕ → Bool → ℕ → Fork → Value → Result ForkPart Refusal
by_start g height vote votes old None = opening g height vote old
by_start g height vote votes old (Some start) = running g height vote votes old (phase_at g height start) old.votes

-- The fork part, by the settings, the height, whether the boundary header votes 120, the first 120 entry's count, and the old entries: 17 if L
-- is 0, 18 if a setting is large, then 19 and 20 as they are met.
unfoldable pub fork_part : VotingConfig → ℕ → Bool → ℕ → Fork → Result ForkPart Refusal
fork_part g height vote votes old =
    cond (voting_length g == 0) (Err VotingLengthZero) (cond (settings_large g) (Err SettingLarge) (by_start g height vote votes old old.start))
