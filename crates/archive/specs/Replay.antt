-- The replay of a record: the tests in order, and the next state. docs/RULES.md, "Replay".
-- Assumes nothing.
use Rattle.std.specs.Prelude.{ℕ, ◌+◌, ◌*◌, ◌%◌, ◌^◌, ◌<◌, ◌≡◌, Bool, cond, ◌&&◌, List, ltb, leb, eqb, length, take, drop, Result, Ok, Err, ⊤}
use Rattle.std.specs.Result.{result_and, result_unwrap_or}
use Rattle.codec.specs.declared.refusal.Refusal.{Refusal}
use Rattle.codec.specs.declared.refusal.Refusal.TheVariants.{EntryDiffers, RecordMalformed, HeightUnexpected}
use Rattle.codec.specs.Refusal.{number}
use Rattle.codec.specs.Check.{Check, passed, and_then}
use Rattle.voting.specs.declared.settings.VotingConfig.{VotingConfig}
use Rattle.voting.specs.declared.table.Table.{Table}
use Rattle.voting.specs.Settings.{voting_length, mainnet}
use Rattle.voting.specs.Tally.{no_tally, entries, tally_votes_seeded}
use Rattle.rounds.specs.Epochs.{boundary_votes}
use Rattle.extension.specs.declared.boundary.Computed.{Computed}
use Rattle.extension.specs.declared.parameters.ParameterMap.{ParameterMap}
use Rattle.extension.specs.declared.parameters.Mismatch as mismatch
use Rattle.extension.specs.Section.{part}
use Rattle.extension.specs.Body.{proposed_update}
use Rattle.extension.specs.Parameters.{parameters_of, check_parameters, Stands, LeastDiffering}
use Rattle.extension.specs.Boundary.{computed_of}
use Rattle.archive.specs.declared.record.RecordPlace.{RecordPlace}
use Rattle.archive.specs.declared.record.Unread.{Unread}
use Rattle.archive.specs.declared.replay.Replay.{Replay}
use Rattle.archive.specs.declared.replay.Rejection.{Rejection}
use Rattle.archive.specs.declared.replay.Rejection.TheVariants.{Refused, Mismatch}
use Rattle.archive.specs.Record.{record_at}
use Rattle.headers.specs.Headers.{check_headers}
use Rattle.archive.specs.ForkVotes.{check_fork_votes}

-- a refusal turns a record down; so does a mismatch, which is 15 and carries the least id that differs
unfoldable pub by_refusal : {A : Type 0} → Result A Refusal → Result A Rejection
by_refusal (Ok x) = Ok x
by_refusal (Err e) = Err (Refused e)

unfoldable pub by_mismatch : Result ⊤ mismatch.Mismatch → Result ⊤ Rejection
by_mismatch (Ok x) = Ok x
by_mismatch (Err e) = Err (Mismatch e.id)

-- the state after an accepted epoch: the computed table goes on, and the tally of the epoch's own headers
abbrev pub onward : Replay → ℕ → List ℕ → Table → Replay
onward s height votes t =
    record {
      settings = s.settings;
      table = t;
      next = height + voting_length s.settings;
      tally = result_unwrap_or (tally_votes_seeded height votes (height + voting_length s.settings) (voting_length s.settings)) no_tally;
    }

-- 26: another height than expected, or an epoch that does not end below 2^31
unfoldable pub check_height : Replay → ℕ → Check
check_height s height = cond (eqb height s.next && leb (height + voting_length s.settings) (2 ^ 31)) passed (Err HeightUnexpected)

-- the boundary: the old table, the tally of the epoch before, the boundary header's vote, the body's proposed update
abbrev pub boundary_on : Replay → ℕ → List ℕ → List ℕ → Result Computed Refusal
boundary_on s height body votes =
    computed_of s.settings height s.table (entries s.tally) (boundary_votes votes) (proposed_update body)

-- after the match, the fork checks of the other headers by the new table
unfoldable pub after_match : Replay → ℕ → List ℕ → Table → Result ⊤ mismatch.Mismatch → Result Replay Rejection
after_match s height votes t m =
    result_and (by_mismatch m) (result_and (by_refusal (check_fork_votes s.settings t (height + 1) (drop 3 votes))) (Ok (onward s height votes t)))

-- after the boundary, the match of the computed table with the body's parameters
unfoldable pub after_boundary : Replay → ℕ → List ℕ → ParameterMap → Computed → Result Replay Rejection
after_boundary s height votes found b = after_match s height votes b.table (check_parameters b.table found)

-- the tests in order
unfoldable pub on_parts : Replay → ℕ → List ℕ → List ℕ → Result Replay Rejection
on_parts s height body votes =
    result_and (by_refusal (check_height s height))
    (result_and (by_refusal (check_headers votes))
    (result_and (by_refusal (check_fork_votes s.settings s.table height (take 3 votes)))
    (and_then (by_refusal (parameters_of body))
    (λ found. and_then (by_refusal (boundary_on s height body votes)) (after_boundary s height votes found)))))

-- the body of a record, and its vote bytes
abbrev pub body_bytes : List ℕ → RecordPlace → List ℕ
body_bytes xs p = part xs p.body p.body_end

abbrev pub vote_bytes : List ℕ → RecordPlace → List ℕ
vote_bytes xs p = part xs p.votes p.end

-- a record, and nothing after it
unfoldable pub on_record : Replay → List ℕ → Result RecordPlace Unread → Result Replay Rejection
on_record s xs (Ok p) =
    cond (eqb p.end (length xs)) (on_parts s p.height (body_bytes xs p) (vote_bytes xs p)) (Err (Refused RecordMalformed))
on_record s xs (Err e) = Err (Refused RecordMalformed)

-- three vote bytes a header
abbrev pub votes_size : VotingConfig → ℕ
votes_size g = 3 * voting_length g

-- the next state; a record that is turned down leaves the state as it was
unfoldable pub replay_of : Replay → List ℕ → Result Replay Rejection
replay_of s xs = on_record s xs (record_at xs (votes_size s.settings))

unfoldable pub state_by : Replay → List ℕ → Replay
state_by s xs = result_unwrap_or (replay_of s xs) s

-- the number that turns a record down; 15 carries an id
unfoldable pub rejection_number : Rejection → ℕ
rejection_number (Refused e) = number e
rejection_number (Mismatch id) = number EntryDiffers

unfoldable pub rejection_id : Rejection → ℕ
rejection_id (Refused e) = 0
rejection_id (Mismatch id) = id

-- the heights of an opening: the positive multiples of 1,024, up to 2,147,482,624
unfoldable pub may_open : ℕ → Bool
may_open height = ltb 0 height && eqb (height % voting_length mainnet) 0 && leb (height + voting_length mainnet) (2 ^ 31)

-- the opening: the first tally is empty
unfoldable pub open_of : ℕ → Table → Result Replay Refusal
open_of height t =
    cond (may_open height) (Ok (record { settings = mainnet; table = t; next = height; tally = no_tally })) (Err HeightUnexpected)

-- the state that an opening with a table gives. Refused: one that expects a height that no epoch reaches
unfoldable pub opened : Table → Result Replay Refusal → Replay
opened t (Ok s) = s
opened t (Err e) = record { settings = mainnet; table = t; next = 2 ^ 31; tally = no_tally }

-- the first three tests of `on_parts`, taken together, for the function that makes them
unfoldable pub check_early : Replay → ℕ → List ℕ → Check
check_early s height votes =
    result_and (check_height s height) (result_and (check_headers votes) (check_fork_votes s.settings s.table height (take 3 votes)))

-- a state at which no epoch is left turns every well-formed record down by 26
abbrev pub Exhausted : Replay → List ℕ → Result Replay Rejection → Type 0
Exhausted s xs r =
    2 ^ 31 < s.next + voting_length s.settings
    → (p : RecordPlace) → record_at xs (votes_size s.settings) ≡ Ok p → p.end ≡ length xs → r ≡ Err (Refused HeightUnexpected)

-- a state that turns every well-formed record down by 26
abbrev pub Closed : Replay → Type 0
Closed s =
    (xs : List ℕ) (p : RecordPlace) → record_at xs (votes_size s.settings) ≡ Ok p → p.end ≡ length xs → replay_of s xs ≡ Err (Refused HeightUnexpected)

-- a record with nothing after it, and what is so of the table that its boundary computes and of the parameters of its body
pub record OfRecord (s : Replay) (xs : List ℕ) (Holds : Table → ParameterMap → Type 0) : Type 0 where
  pub place : RecordPlace
  pub whole : record_at xs (votes_size s.settings) ≡ Ok place
  pub ends : place.end ≡ length xs
  pub computed : Computed
  pub boundary : boundary_on s place.height (body_bytes xs place) (vote_bytes xs place) ≡ Ok computed
  pub found : ParameterMap
  pub parameters : parameters_of (body_bytes xs place) ≡ Ok found
  pub holds : Holds computed.table found

-- 15 carries the least id whose entry is missing or different in the body; accepted, every entry stands there
abbrev pub LeastOfRecord : Replay → List ℕ → Result Replay Rejection → Type 0
LeastOfRecord s xs r =
    ((e : Rejection) → r ≡ Err e → rejection_number e ≡ 15 → OfRecord s xs (λ t m. LeastDiffering t m (rejection_id e)))
    × ((next : Replay) → r ≡ Ok next → OfRecord s xs (λ t m. (id : ℕ) → Stands t m id))
