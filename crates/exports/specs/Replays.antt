-- What the calls of a replay promise, one by one and one after another. docs/RULES.md, "Replay".
-- Assumes nothing.
use Rattle.std.specs.Prelude.{Ok, ℕ, ◌≤◌, ◌≡◌, List, [], ◌∷◌, length}
use Rattle.archive.specs.Replay.{replay_of}
use Rattle.archive.specs.Rounds.{state_after}
use Rattle.archive.specs.declared.replay.Replay.{Replay}
use Rattle.wire.specs.State.{state_at}
use Rattle.exports.specs.Reply.{reply, Told}
use Rattle.exports.specs.Calls.{replayed_into, replayed_number, replayed_id}

-- a record on the state that the cells hold: the answer, and the cells before and after. Where 0 is answered, the cells hold the very state
-- that the definition gives; and if the cells are enough for a state, the answer tells the refusal's number and id
pub record Replays (before rec : List ℕ) (r : ℕ) (after : List ℕ) : Type 0 where
  pub answers : reply r after ≡ replayed_into (replay_of (state_at before 0) rec) before
  pub next-reads : r ≡ 0 → replay_of (state_at before 0) rec ≡ Ok (state_at after 0)
  pub told : 95 ≤ length before → Told r (replayed_number (replay_of (state_at before 0) rec)) (replayed_id (replay_of (state_at before 0) rec))

-- calls one after another on the same cells, up to the last content
abbrev pub CallsOn : List ℕ → List (List ℕ) → List ℕ → Type 0
CallsOn cells [] last = last ≡ cells
CallsOn cells (rec ∷ recs) last = (r : ℕ) × (after : List ℕ) × Replays cells rec r after × CallsOn after recs last

-- the state that cells hold after any such calls is the one that the replay of `archive` comes to, over the same byte strings
abbrev pub Onward : List ℕ → Replay → Type 0
Onward cells s = (recs : List (List ℕ)) (last : List ℕ) → CallsOn cells recs last → state_at last 0 ≡ state_after s recs
