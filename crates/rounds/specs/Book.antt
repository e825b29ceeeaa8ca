-- The rounds of soft-fork voting, told from the calls of a replay alone; the request's paper calls this the round book.
-- docs/RULES.md, "Replay".
-- Assumes nothing.
use Rattle.std.specs.Prelude.{ℕ, ◌+◌, ◌-◌, ◌/◌, Bool, not, cond, ◌&&◌, ◌||◌, List, [], ◌∷◌, leb, ltb, eqb}
use Rattle.voting.specs.declared.settings.VotingConfig.{VotingConfig}
use Rattle.voting.specs.Settings.{voting_length, vote_epochs, activation_epochs, fork_limit}
use Rattle.rounds.specs.Epochs.{boundary_votes, counted, forced_version}

-- the open round, if there is one: its opening height and its votes
pub data Round : Type 0 where
  idle : Round
  since : ℕ → ℕ → Round

-- the version, the open round, and the vote bytes of the accepted record before
pub record Book : Type 0 where
  pub version : ℕ
  pub round : Round
  pub before : List ℕ

-- k, the epochs from S to a height
unfoldable pub epochs_since : VotingConfig → ℕ → ℕ → ℕ
epochs_since g s h = (h - s) / voting_length g

-- round open, k at most V: add what the accepted record before brings
unfoldable pub book_add : VotingConfig → ℕ → ℕ → Round → Round
book_add g h c idle = idle
book_add g h c (since s n) = since s (cond (leb (epochs_since g s h) (vote_epochs g)) (n + c) n)

-- round open, k = V+A, its votes approved: the version rises by 1
unfoldable pub book_rise : VotingConfig → ℕ → Round → ℕ → ℕ
book_rise g h idle v = v
book_rise g h (since s n) v = cond (eqb (epochs_since g s h) (vote_epochs g + activation_epochs g) && ltb (fork_limit g) n) (v + 1) v

-- round open, k = V+1 and its votes not approved, or k = V+A+1: it closes
unfoldable pub book_close : VotingConfig → ℕ → Round → Round
book_close g h idle = idle
book_close g h (since s n) =
    cond
    ((eqb (epochs_since g s h) (vote_epochs g + 1) && not (ltb (fork_limit g) n))
    || eqb (epochs_since g s h) (vote_epochs g + activation_epochs g + 1))
    idle (since s n)

-- no round open, the boundary header votes 120: one opens with no votes
unfoldable pub book_open : ℕ → Bool → Round → Round
book_open h vote (since s n) = since s n
book_open h vote idle = cond vote (since h 0) idle

-- an accepted record, by its height and its vote bytes: the five in order
unfoldable pub book_take : VotingConfig → Book → ℕ → List ℕ → Book
book_take g b h bytes =
    let added = book_add g h (counted b.before) b.round in
    record {
      version = forced_version g h (book_rise g h added b.version);
      round = book_open h (boundary_votes bytes) (book_close g h added);
      before = bytes;
    }

-- what the book is told of a call: that it refused, or the height and the vote bytes of its record
pub data Call : Type 0 where
  turned_down : Call
  taken : ℕ → List ℕ → Call

unfoldable pub book_step : VotingConfig → Book → Call → Book
book_step g b turned_down = b
book_step g b (taken h bytes) = book_take g b h bytes

unfoldable pub book_run : VotingConfig → Book → List Call → Book
book_run g b [] = b
book_run g b (c ∷ cs) = book_run g (book_step g b c) cs
