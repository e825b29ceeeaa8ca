-- Five records, by settings in which an epoch has three headers, so that two votes are more than half; and a year of steps one way.
-- docs/RULES.md, "Steps over the years".
-- Assumes nothing.
use Rattle.std.specs.Prelude.{Err, ℕ, zero, suc, ◌≡◌, List, [], ◌∷◌, ◌++◌, ℤ, pos, replicate, Some}
use Rattle.codec.specs.BigEndian.{big_endian_bytes}
use Rattle.voting.specs.Value.{Value}
use Rattle.voting.specs.Settings.{settings}
use Rattle.voting.specs.Table.{lookup}
use Rattle.voting.specs.Tally.{no_tally, counted_for}
use Rattle.voting.specs.Ordinary.{raised, lowered}
use Rattle.extension.specs.Order.{only_first}
use Rattle.archive.specs.declared.replay.Replay.{Replay}
use Rattle.archive.specs.declared.replay.Rejection.TheVariants.{Mismatch}
use Rattle.archive.specs.Record.{record_bytes}
use Rattle.archive.specs.Replay.{replay_of}
use Rattle.archive.specs.Rounds.{state_after}
use Rattle.archive.specs.Steps.{epoch_before}

-- parameter 1 stands one below its greatest value, 2,500,000, and its step is 25,000; the first boundary is at height 3
abbrev pub start : Replay
start = record { settings = settings 3 1 1 0; table = only_first (pos 2499999); next = 3; tally = no_tally }

-- a record by its height, parameter 1 in its body beside version 1, and a vote of each of its headers; 255 is the vote -1
abbrev pub epoch_at : (height value a b c : ℕ) → List ℕ
epoch_at height value a b c =
    record_bytes height (replicate 32 0 ++ (2 ∷ 0 ∷ 1 ∷ 4 ∷ big_endian_bytes 4 value ++ (0 ∷ 123 ∷ 4 ∷ big_endian_bytes 4 1)))
    (a ∷ 0 ∷ 0 ∷ b ∷ 0 ∷ 0 ∷ c ∷ 0 ∷ 0 ∷ [])

-- two headers vote for up, the boundary header among them
abbrev pub first : List ℕ
first = epoch_at 3 2499999 1 0 1

-- turned down, since parameter 1 has moved; all its headers vote for down
abbrev pub wrong : List ℕ
wrong = epoch_at 6 2499999 255 255 255

-- two headers vote for up, but not the boundary header
abbrev pub second : List ℕ
second = epoch_at 6 2524999 0 1 1

-- two headers vote for down, the boundary header among them
abbrev pub third : List ℕ
third = epoch_at 9 2524999 255 0 255

abbrev pub fourth : List ℕ
fourth = epoch_at 12 2499999 0 0 0

-- parameter 1 after these records, and the votes for a byte that were counted in the epoch before the next
abbrev pub value_after : List (List ℕ) → Value
value_after calls = lookup (state_after start calls).table 1

abbrev pub counted_after : ℕ → List (List ℕ) → ℕ
counted_after b calls = counted_for b (epoch_before [] start calls)

pub record StepsTaken : Type 0 where
  pub turned_down : replay_of (state_after start (first ∷ [])) wrong ≡ Err (Mismatch 1)
  pub two-for-up : counted_after 1 (first ∷ wrong ∷ []) ≡ 2
  pub none-for-down : counted_after 255 (first ∷ wrong ∷ []) ≡ 0
  pub up-beyond-greatest : value_after (first ∷ wrong ∷ second ∷ []) ≡ Some (pos 2524999)
  pub silent-boundary : counted_after 1 (first ∷ wrong ∷ second ∷ []) ≡ 0
  pub stays : value_after (first ∷ wrong ∷ second ∷ third ∷ []) ≡ Some (pos 2524999)
  pub two-for-down : counted_after 255 (first ∷ wrong ∷ second ∷ third ∷ []) ≡ 2
  pub down : value_after (first ∷ wrong ∷ second ∷ third ∷ fourth ∷ []) ≡ Some (pos 2499999)

-- one step after another
unfoldable pub repeated : ℕ → (ℤ → ℤ) → ℤ → ℤ
repeated zero step z = z
repeated (suc n) step z = repeated n step (step z)

-- parameter 4 from where mainnet's first table has it, moved the same way at 257 boundaries
pub record YearOfSteps : Type 0 where
  pub all_up : repeated 257 (raised 4) (pos 1000000) ≡ pos 12899538
  pub all-down : repeated 257 (lowered 4) (pos 1000000) ≡ pos 75599
