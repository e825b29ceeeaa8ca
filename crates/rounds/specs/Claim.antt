-- What is promised of the rounds over every list of records, accepted and refused ones mixed. docs/RULES.md, "Replay".
-- Assumes nothing.
use Rattle.std.specs.Prelude.{ℕ, zero, suc, ◌+◌, ◌*◌, ◌%◌, ◌<◌, ◌≤◌, min, ◌≡◌, ◌↔◌, Bool, true, false, cond, List, [], ◌∷◌, ltb, pos, length, None, Some}
use Rattle.voting.specs.declared.settings.VotingConfig.{VotingConfig}
use Rattle.voting.specs.declared.table.Fork.{Fork}
use Rattle.voting.specs.Settings.{voting_length, vote_epochs, activation_epochs, fork_limit, settings_large}
use Rattle.voting.specs.Table.{fork_entries}
use Rattle.rounds.specs.Epochs.{boundary_votes, counted, forced_version}
use Rattle.rounds.specs.Book.{Round, idle, since, Book, book_run}
use Rattle.rounds.specs.Replay.{Replay, accepted, run, calls, epochs}

-- 121, 122 and 123 for an open round, or for none, and a version
abbrev pub entries_for : Round → ℕ → Fork
entries_for idle v = fork_entries None None (Some (pos v))
entries_for (since s n) v = fork_entries (Some (pos n)) (Some (pos s)) (Some (pos v))

-- the settings for which the promise holds
pub record Sound (g : VotingConfig) : Type 0 where
  pub length-positive : 0 < voting_length g
  pub votes-positive : 0 < vote_epochs g
  pub moderate : settings_large g ≡ false

-- an opening at a multiple of the length, with a version from 1 to 255 and without 121 and 122; `before` has the vote bytes of the epoch
-- before it, or none
pub record Opening (g : VotingConfig) (m : Replay) (s : m.State) (v : ℕ) (before : List ℕ) : Type 0 where
  pub multiple : m.next s % voting_length g ≡ 0
  pub version-small : v ≤ 255
  pub table : m.fork s ≡ entries_for idle v
  pub brought : m.fork_votes s ≡ counted before
  pub few : counted before ≤ voting_length g

abbrev pub first_book : ℕ → List ℕ → Book
first_book v before = record { version = v; round = idle; before = before }

abbrev pub entries_by : Book → Fork
entries_by b = entries_for b.round b.version

-- the votes counted over the first k of these epochs
unfoldable pub total : ℕ → List (List ℕ) → ℕ
total zero es = 0
total (suc k) [] = 0
total (suc k) (e ∷ es) = counted e + total k es

-- more than the limit was counted over the vote epochs of a round that began with these
unfoldable pub won : VotingConfig → List (List ℕ) → Bool
won g es = ltb (fork_limit g) (total (vote_epochs g) es)

-- after how many epochs it closes
unfoldable pub span : VotingConfig → List (List ℕ) → ℕ
span g es = cond (won g es) (vote_epochs g + activation_epochs g + 1) (vote_epochs g + 1)

-- A boundary at height h, from the old entries to the new ones. A round opens there, that is 122 becomes h, exactly when the boundary header
-- votes 120 and no round is left open; and unless the open round is at its rise, the version does not change, save from 1 to 2.
pub record Boundary (g : VotingConfig) (h : ℕ) (vote : Bool) (old new : Fork) : Type 0 where
  pub opens : (new.start ≡ Some (pos h)) ↔ ((vote ≡ true) × ((S : ℕ) → old.start ≡ Some (pos S) → new.start ≡ Some (pos S) → ⊥))
  pub stays : ((S : ℕ) → old.start ≡ Some (pos S) → h ≡ S + voting_length g * (vote_epochs g + activation_epochs g) → ⊥)
      → (v : ℕ) → old.version ≡ Some (pos v) → new.version ≡ Some (pos (forced_version g h v))

-- A round opened at S by a record with the vote bytes e; t is the state after that record, rs the records since. With as many epochs since as
-- `epochs` has: before it closes, 122 is S and 121 is what was counted over the vote epochs so far; from its closing on, 122 is S no more; and at
-- the boundary V+A epochs after S the version rises by one exactly if more than the limit was counted.
pub record Life (g : VotingConfig) (m : Replay) (S : ℕ) (e : List ℕ) (t : m.State) (rs : List m.Record) : Type 0 where
  pub stands : length (epochs m t rs) < span g (e ∷ epochs m t rs)
      → ((m.fork (run m t rs)).start ≡ Some (pos S)) × ((m.fork (run m t rs)).votes ≡ Some (pos (total (min (length (epochs m t rs)) (vote_epochs g)) (e ∷ epochs m t rs))))
  pub closes : span g (e ∷ epochs m t rs) ≤ length (epochs m t rs) → (m.fork (run m t rs)).start ≡ Some (pos S) → ⊥
  pub rises : (r : m.Record) (u : m.State) → m.step (run m t rs) r ≡ accepted u → suc (length (epochs m t rs)) ≡ vote_epochs g + activation_epochs g
      → (v : ℕ) → (m.fork (run m t rs)).version ≡ Some (pos v) → (m.fork u).version ≡ Some (pos (forced_version g (m.height r) (cond (won g (e ∷ epochs m t rs)) (v + 1) v)))

-- The promise for a list of records, from a state s. Heights rise by the length; the entries are the book's; and of every further record that
-- is accepted, its boundary, and the life of a round that opens there, whatever records follow.
pub record Promise (g : VotingConfig) (m : Replay) (s : m.State) (v : ℕ) (before : List ℕ) (rs : List m.Record) : Type 0 where
  pub heights : m.next (run m s rs) ≡ m.next s + voting_length g * length (epochs m s rs)
  pub book : m.fork (run m s rs) ≡ entries_by (book_run g (first_book v before) (calls m s rs))
  pub boundary : (r : m.Record) (t : m.State) → m.step (run m s rs) r ≡ accepted t
      → (m.height r ≡ m.next (run m s rs)) × Boundary g (m.height r) (boundary_votes (m.votes r)) (m.fork (run m s rs)) (m.fork t)
  pub life : (r : m.Record) (t : m.State) → m.step (run m s rs) r ≡ accepted t → (m.fork t).start ≡ Some (pos (m.height r))
      → (after : List m.Record) → Life g m (m.height r) (m.votes r) t after
