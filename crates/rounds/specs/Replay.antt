-- What the rounds see of a replay: states, records and a step; and the law that an accepted step has to keep. docs/RULES.md, "Replay".
-- Assumes nothing.
use Rattle.std.specs.Prelude.{Result, Ok, Err, ℕ, ◌+◌, ◌*◌, ◌^◌, ◌≤◌, ◌≡◌, true, List, [], ◌∷◌, pos, length}
use Rattle.voting.specs.declared.settings.VotingConfig.{VotingConfig}
use Rattle.voting.specs.declared.table.Fork.{Fork}
use Rattle.codec.specs.declared.refusal.Refusal.{Refusal}
use Rattle.codec.specs.Check.{passed}
use Rattle.voting.specs.declared.fork.ForkPart.{ForkPart}
use Rattle.voting.specs.Settings.{voting_length}
use Rattle.voting.specs.Tally.{headers, seeded, entries, first_count}
use Rattle.voting.specs.ForkCheck.{check_round}
use Rattle.voting.specs.ForkPart.{fork_part}
use Rattle.voting.specs.Header.{soft_fork_vote, AllLegal}
use Rattle.rounds.specs.Epochs.{boundary_votes}
use Rattle.rounds.specs.Book.{Call, turned_down, taken}

-- the next state, or a refusal's number
pub data Answer (X : Type 0) : Type 0 where
  refused : ℕ → Answer X
  accepted : X → Answer X

-- of a state: the fork entries of its table, the height that is expected, and the votes that the epoch before brings to the next boundary;
-- of a record: its height and its vote bytes
pub record Replay : Type 1 where
  pub State : Type 0
  pub Record : Type 0
  pub fork : State → Fork
  pub next : State → ℕ
  pub fork_votes : State → ℕ
  pub height : Record → ℕ
  pub votes : Record → List ℕ
  pub step : State → Record → Answer State

module _ (m : Replay) where
  -- a refused record leaves the state as it was, and the book is told no more than that
  abbrev pub after : m.State → Answer m.State → m.State
  after s (refused n) = s
  after s (accepted t) = t

  abbrev pub call : m.Record → Answer m.State → Call
  call r (refused n) = turned_down
  call r (accepted t) = taken (m.height r) (m.votes r)

  -- the state after a list of records, and what the book is told of it
  unfoldable pub run : m.State → List m.Record → m.State
  run s [] = s
  run s (r ∷ rs) = run (after s (m.step s r)) rs

  unfoldable pub calls : m.State → List m.Record → List Call
  calls s [] = []
  calls s (r ∷ rs) = call r (m.step s r) ∷ calls (after s (m.step s r)) rs

  -- the vote bytes of the accepted records, in order
  unfoldable pub add-epoch : m.Record → Answer m.State → List (List ℕ) → List (List ℕ)
  add-epoch r (refused n) es = es
  add-epoch r (accepted t) es = m.votes r ∷ es

  unfoldable pub epochs : m.State → List m.Record → List (List ℕ)
  epochs s [] = []
  epochs s (r ∷ rs) = add-epoch r (m.step s r) (epochs (after s (m.step s r)) rs)

-- the entries that a fork part leaves; the old ones where it is refused
abbrev pub fork_after : Fork → Result ForkPart Refusal → Fork
fork_after old (Ok p) = p.fork
fork_after old (Err e) = old

-- What an accepted record has met, as far as the rounds look: L headers; the expected height, its epoch below 2^31; legal headers; a
-- boundary header that may vote as it does, by the old table. What it leaves: the fork entries of the boundary, the next height, and the
-- votes that its own tally brings on.
pub record Accepted (g : VotingConfig) (m : Replay) (s : m.State) (r : m.Record) (t : m.State) : Type 0 where
  pub long : length (m.votes r) ≡ 3 * voting_length g
  pub height : m.height r ≡ m.next s
  pub top : m.height r + voting_length g ≤ 2 ^ 31
  pub legal : AllLegal (headers (m.votes r))
  pub check : boundary_votes (m.votes r) ≡ true → check_round g (m.height r) (m.fork s).start (m.fork s).votes ≡ passed
  pub part : m.fork t ≡ fork_after (m.fork s) (fork_part g (m.height r) (boundary_votes (m.votes r)) (m.fork_votes s) (m.fork s))
  pub next : m.next t ≡ m.height r + voting_length g
  pub brings : m.fork_votes t ≡ first_count (pos soft_fork_vote) (entries (seeded (m.votes r)))

abbrev pub Lawful : VotingConfig → Replay → Type 0
Lawful g m = (s : m.State) (r : m.Record) (t : m.State) → m.step s r ≡ accepted t → Accepted g m s r t
