-- A record that is refused by 15 carries the least id that differs; no other test of a replay answers 15.
-- Assumes nothing.
use mathlib.Core.Path.{◌≡◌, refl, sym, subst}
use mathlib.Core.Bool.{Bool, true, false, cond, ◌&&◌}
use mathlib.Core.List.{List, [], ◌∷◌}
use Prim.Native.Nat.{ℕ, ◌+◌, ◌^◌}
use native.Mathlib.Omega.{arith}
use borrow.Author.Tests.{eqb-true}
use lib.Dec.{leb, eqb}
use lib.ListN.{length, take, drop}
use Rattle.std.specs.Prelude.{Result, Ok, Err, ⊤}
use Rattle.std.specs.Result.{result_and}
use Rattle.codec.specs.declared.refusal.Refusal.{Refusal}
use Rattle.codec.specs.declared.refusal.Refusal.TheVariants.{BodyShort, CountUnreadable, FieldHeaderCut, ValueLong, ValueCut, ParameterSize, UpdateUnreadable, MandatoryDisabled, TooManyVotes, RepeatedVote, ContradictoryVote, ForkVoteBarred, UnknownParameter, AbsentParameter, EntryDiffers, BlockVersionDiffers, VotingLengthZero, SettingLarge, VotesCollectedAbsent, BlockVersionAbsent, OutputShort, InputLong, StatusRuleLow, WrittenValueLong, WindowLengthOutside, RecordMalformed, HeightUnexpected}
use Rattle.codec.specs.Refusal.{number}
use Rattle.codec.specs.Check.{Check, passed, and_then}
use Rattle.voting.specs.declared.settings.VotingConfig.{VotingConfig}
use Rattle.voting.specs.declared.table.Table.{Table}
use Rattle.voting.specs.Settings.{voting_length}
use Rattle.voting.specs.Header.{check_header_votes}
use Rattle.voting.specs.Tally.{headers, entries}
use Rattle.voting.specs.ForkCheck.{check_fork_vote}
use Rattle.voting.proofs.Laws.Refusals.{IsOther, Other, and-other, then-other, header-other, fork-vote-other}
use Rattle.rounds.specs.Epochs.{boundary_votes}
use Rattle.extension.specs.declared.boundary.Computed.{Computed}
use Rattle.extension.specs.declared.parameters.Mismatch.{Mismatch}
use Rattle.extension.specs.declared.parameters.ParameterMap.{ParameterMap}
use Rattle.extension.specs.Body.{check_body, proposed_update}
use Rattle.extension.specs.Parameters.{parameters_of, check_parameters, Stands, LeastDiffering, LeastCarried}
use Rattle.extension.proofs.Laws.Matched.{least-carried}
use Rattle.extension.proofs.Laws.Refusals.{body-other, computed-other}
use Rattle.archive.specs.declared.record.RecordPlace.{RecordPlace}
use Rattle.archive.specs.declared.record.Unread.{Unread}
use Rattle.archive.specs.declared.replay.Replay.{Replay}
use Rattle.archive.specs.declared.replay.Rejection.{Rejection}
use Rattle.archive.specs.declared.replay.Rejection.TheVariants.{Refused, Mismatch as Mismatched}
use Rattle.archive.specs.Record.{record_at}
use Rattle.headers.specs.Headers.{check_each, check_headers}
use Rattle.archive.specs.ForkVotes.{check_each_vote, check_fork_votes}
use Rattle.archive.specs.Replay.{by_refusal, by_mismatch, onward, check_height, boundary_on, after_match, after_boundary, on_parts, body_bytes, vote_bytes, on_record, votes_size, replay_of, Exhausted, OfRecord, rejection_number, rejection_id, LeastOfRecord}
use Rattle.archive.proofs.Laws.Replay.{exhausted}

-- the other tests of a replay
height-other : (s : Replay) (height : ℕ) → Other (check_height s height)
unfolding check_height
height-other s height = go (eqb height s.next && leb (height + voting_length s.settings) (2 ^ 31))
  where
    go : (b : Bool) → Other (cond b passed (Err HeightUnexpected))
    go true = tt
    go false = λ q. cc

headers-other : (votes : List ℕ) → Other (check_headers votes)
unfolding check_headers check_each
headers-other votes = go (headers votes)
  where
    go : (hs : List (List ℕ)) → Other (check_each hs)
    go [] = tt
    go (h ∷ hs) = and-other (check_header_votes h) (check_each hs) (header-other h) (go hs)

fork-votes-other : (g : VotingConfig) (t : Table) (height : ℕ) (votes : List ℕ) → Other (check_fork_votes g t height votes)
unfolding check_fork_votes check_each_vote
fork-votes-other g t height votes = go height (headers votes)
  where
    go : (height : ℕ) (hs : List (List ℕ)) → Other (check_each_vote g t height hs)
    go height [] = tt
    go height (h ∷ hs) = and-other (check_fork_vote g height h t) (check_each_vote g t (height + 1) hs) (fork-vote-other g height h t) (go (height + 1) hs)

parameters-other : (body : List ℕ) → Other (parameters_of body)
unfolding parameters_of
parameters-other body = then-other (check_body body) _ (body-other body) (λ x. tt)

-- 15 is the number of one refusal alone
by-number : (e : Refusal) → IsOther e → number e ≡ 15 → ⊥
by-number BodyShort o n = omega arith
by-number CountUnreadable o n = omega arith
by-number FieldHeaderCut o n = omega arith
by-number ValueLong o n = omega arith
by-number ValueCut o n = omega arith
by-number ParameterSize o n = omega arith
by-number UpdateUnreadable o n = omega arith
by-number MandatoryDisabled o n = omega arith
by-number TooManyVotes o n = omega arith
by-number RepeatedVote o n = omega arith
by-number ContradictoryVote o n = omega arith
by-number ForkVoteBarred o n = omega arith
by-number UnknownParameter o n = omega arith
by-number AbsentParameter o n = omega arith
by-number EntryDiffers o n = o refl
by-number BlockVersionDiffers o n = omega arith
by-number VotingLengthZero o n = omega arith
by-number SettingLarge o n = omega arith
by-number VotesCollectedAbsent o n = omega arith
by-number BlockVersionAbsent o n = omega arith
by-number OutputShort o n = omega arith
by-number InputLong o n = omega arith
by-number StatusRuleLow o n = omega arith
by-number WrittenValueLong o n = omega arith
by-number WindowLengthOutside o n = omega arith
by-number RecordMalformed o n = omega arith
by-number HeightUnexpected o n = omega arith

-- what an answer says: if it is 15, that an id is the least that differs; accepted, that every entry stands
abbrev Judged : ((Table → ParameterMap → Type 0) → Type 0) → Result Replay Rejection → Type 0
Judged Of r =
    ((e : Rejection) → r ≡ Err e → rejection_number e ≡ 15 → Of (λ t m. LeastDiffering t m (rejection_id e)))
    × ((next : Replay) → r ≡ Ok next → Of (λ t m. (id : ℕ) → Stands t m id))

module _ (Of : (Table → ParameterMap → Type 0) → Type 0) where
  refused-judged : (e : Refusal) → IsOther e → Judged Of (Err (Refused e))
  unfolding rejection_number
  refused-judged e o = (λ r q n. absurd (by-number e o (subst (λ (x : Rejection). rejection_number x ≡ 15) (let same : r ≡ Refused e = cc in same) n)), λ next q. cc)

  gate-judged : (c : Check) (r : Result Replay Rejection) → Other c → Judged Of r → Judged Of (result_and (by_refusal c) r)
  unfolding by_refusal
  gate-judged (Ok tt) r o j = j
  gate-judged (Err e) r o j = refused-judged e o

  match-judged : (s : Replay) (height : ℕ) (votes : List ℕ) (t : Table) (m : ParameterMap) → ((Holds : Table → ParameterMap → Type 0) → Holds t m → Of Holds)
      → (x : Result ⊤ Mismatch) → LeastCarried t m x → Judged Of (after_match s height votes t x)
  unfolding after_match by_mismatch rejection_id
  match-judged s height votes t m of (Ok tt) all =
      gate-judged (check_fork_votes s.settings t (height + 1) (drop 3 votes)) (Ok (onward s height votes t)) (fork-votes-other s.settings t (height + 1) (drop 3 votes))
      (λ e q. cc, λ next q. of _ all)
  match-judged s height votes t m of (Err d) least = (
    λ e q n. subst (λ (x : Rejection). Of (λ t m. LeastDiffering t m (rejection_id x))) (let same : Mismatched d.id ≡ e = cc in same) (of _ least),
    λ next q. cc,
  )

-- of a record, whose bytes are told apart
module _ (s : Replay) (xs : List ℕ) where
  parts-judged : (p : RecordPlace) → record_at xs (votes_size s.settings) ≡ Ok p → p.end ≡ length xs → Judged (OfRecord s xs) (on_parts s p.height (body_bytes xs p) (vote_bytes xs p))
  unfolding on_parts after_boundary by_refusal
  parts-judged p whole ends =
      gate-judged (OfRecord s xs) (check_height s p.height) _ (height-other s p.height)
      (gate-judged (OfRecord s xs) (check_headers votes) _ (headers-other votes)
      (gate-judged (OfRecord s xs) (check_fork_votes s.settings s.table p.height (take 3 votes)) _ (fork-votes-other s.settings s.table p.height (take 3 votes))
      (by-body (parameters_of body) refl)))
    where
      body : List ℕ
      body = body_bytes xs p

      votes : List ℕ
      votes = vote_bytes xs p

      by-boundary : (m : ParameterMap) → parameters_of body ≡ Ok m → (r : Result Computed Refusal) → boundary_on s p.height body votes ≡ r
          → Judged (OfRecord s xs) (and_then (by_refusal r) (after_boundary s p.height votes m))
      by-boundary m q (Ok c) w =
          match-judged (OfRecord s xs) s p.height votes c.table m
          (λ Holds h. record { place = p; whole = whole; ends = ends; computed = c; boundary = w; found = m; parameters = q; holds = h })
          (check_parameters c.table m) (least-carried c.table m (check_parameters c.table m) refl).1
      by-boundary m q (Err e) w =
          refused-judged (OfRecord s xs) e (subst Other w (computed-other s.settings p.height s.table (entries s.tally) (boundary_votes votes) (proposed_update body)))

      by-body : (r : Result ParameterMap Refusal) → parameters_of body ≡ r
          → Judged (OfRecord s xs) (and_then (by_refusal r) (λ found. and_then (by_refusal (boundary_on s p.height body votes)) (after_boundary s p.height votes found)))
      by-body (Ok m) q = by-boundary m q (boundary_on s p.height body votes) refl
      by-body (Err e) q = refused-judged (OfRecord s xs) e (subst Other q (parameters-other body))

  malformed : Judged (OfRecord s xs) (Err (Refused RecordMalformed))
  malformed = refused-judged (OfRecord s xs) RecordMalformed (λ q. cc)

  least-of-record : LeastOfRecord s xs (replay_of s xs)
  unfolding replay_of on_record
  least-of-record = go (record_at xs (votes_size s.settings)) refl
    where
      whole : (p : RecordPlace) → record_at xs (votes_size s.settings) ≡ Ok p → (b : Bool) → eqb p.end (length xs) ≡ b
          → LeastOfRecord s xs (cond b (on_parts s p.height (body_bytes xs p) (vote_bytes xs p)) (Err (Refused RecordMalformed)))
      whole p q true w = parts-judged p q (eqb-true p.end (length xs) w)
      whole p q false w = malformed

      go : (x : Result RecordPlace Unread) → record_at xs (votes_size s.settings) ≡ x → LeastOfRecord s xs (on_record s xs x)
      go (Ok p) q = whole p q (eqb p.end (length xs)) refl
      go (Err e) q = malformed

-- what a replay promises
pub promised : (s : Replay) (xs : List ℕ) (r : Result Replay Rejection) → r ≡ replay_of s xs → (r ≡ replay_of s xs) × (Exhausted s xs r × LeastOfRecord s xs r)
promised s xs r e = (e, (exhausted s xs r e, subst (LeastOfRecord s xs) (sym e) (least-of-record s xs)))
