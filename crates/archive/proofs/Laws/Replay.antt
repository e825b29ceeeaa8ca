-- The replay of a record, by the ways through the code.
-- Assumes nothing.
use mathlib.Core.Path.{◌≡◌, refl, sym, ap, ◌∙◌}
use mathlib.Core.Bool.{Bool, true, false, cond, ◌&&◌}
use mathlib.Core.List.{List, [], ◌∷◌}
use Prim.Native.Nat.{ℕ, ◌+◌, ◌/◌, ◌%◌, ◌^◌, ◌≤◌, ◌<◌}
use native.Mathlib.Omega.{arith}
use borrow.Author.Tests.{eq-eqb, ne_eqb, eqb-true, leb-true}
use lib.Dec.{ltb, leb, eqb}
use lib.ListN.{length, get_or, take, drop}
use Rattle.std.specs.Prelude.{Result, Ok, Err, ⊤, OnErr}
use Rattle.std.specs.Result.{result_and, result_unwrap_or}
use Rattle.codec.specs.declared.refusal.Refusal.{Refusal}
use Rattle.codec.specs.declared.refusal.Refusal.TheVariants.{RecordMalformed, HeightUnexpected}
use Rattle.codec.specs.Check.{Check, passed, and_then}
use Rattle.voting.specs.declared.settings.VotingConfig.{VotingConfig}
use Rattle.voting.specs.declared.table.Table.{Table}
use Rattle.voting.specs.Settings.{voting_length, mainnet}
use Rattle.voting.specs.Header.{soft_fork_vote, votes_for}
use Rattle.voting.specs.Tally.{headers, no_tally, entries, first_votes}
use Rattle.voting.specs.ForkCheck.{check_fork_vote}
use Rattle.voting.proofs.Laws.Tests.{both, and-passed}
use Rattle.rounds.specs.Epochs.{boundary_votes}
use Rattle.extension.specs.declared.boundary.Computed.{Computed}
use Rattle.extension.specs.declared.parameters.Mismatch.{Mismatch}
use Rattle.extension.specs.declared.parameters.ParameterMap.{ParameterMap}
use Rattle.extension.specs.declared.section.Section.{Section}
use Rattle.extension.specs.Section.{part, section_items}
use Rattle.extension.specs.Body.{read_field}
use Rattle.extension.specs.Parameters.{no_parameters, parameters_in, parameters_of}
use Rattle.extension.specs.Boundary.{computed_of}
use Rattle.walk.specs.declared.Walked.{Walked}
use Rattle.extension.proofs.Laws.Parameters.{parameters-refused, parameters-is}
use Rattle.walk.specs.Walk.{table_in, WalkedIs, match_found}
use Rattle.walk.proofs.Laws.Match.{match-parameters}
use Rattle.archive.specs.declared.record.RecordPlace.{RecordPlace}
use Rattle.archive.specs.declared.record.Unread.{Unread}
use Rattle.archive.specs.declared.replay.Replay.{Replay}
use Rattle.archive.specs.declared.replay.Rejection.{Rejection}
use Rattle.archive.specs.declared.replay.Rejection.TheVariants.{Refused, Mismatch as Mismatched}
use Rattle.archive.specs.Record.{record_at}
use Rattle.headers.specs.Headers.{check_headers}
use Rattle.archive.specs.ForkVotes.{check_each_vote, check_fork_votes}
use Rattle.archive.specs.Replay.{by_refusal, by_mismatch, body_bytes, vote_bytes, onward, boundary_on, after_match, after_boundary, check_height, check_early, on_parts, on_record, votes_size, replay_of, Exhausted, may_open, open_of, opened, Closed}
use Rattle.archive.specs.Rounds.{RoundsKept}
use Rattle.archive.specs.Steps.{StepsBy, StepsKept}
use Rattle.archive.specs.Mainnet.{MainnetSteps}
use Rattle.archive.proofs.Laws.Rounds.{height-met, kept}
use Rattle.archive.proofs.Laws.Steps.{opening-steps}

-- 26
module _ (s : Replay) (height : ℕ) where
  pub height-right : (eqb height s.next && leb (height + voting_length s.settings) 2147483648) ≡ true → passed ≡ check_height s height
  unfolding check_height
  height-right e = rw e

  pub height-wrong : (eqb height s.next && leb (height + voting_length s.settings) 2147483648) ≡ false → Err HeightUnexpected ≡ check_height s height
  unfolding check_height
  height-wrong e = rw e

-- the first header, and the others
and-last : {E : Type 0} (c : Result ⊤ E) → c ≡ result_and c (Ok tt)
and-last (Ok tt) = refl
and-last (Err e) = refl

module _ (g : VotingConfig) (t : Table) (height : ℕ) where
  pub boundary-few : (votes : List ℕ) → length votes < 3 → passed ≡ check_fork_votes g t height (take 3 votes)
  unfolding check_fork_votes check_each_vote headers
  boundary-few [] h = refl
  boundary-few (a ∷ []) h = refl
  boundary-few (a ∷ b ∷ []) h = refl
  boundary-few (a ∷ b ∷ c ∷ votes) h = absurd (omega arith)

  pub boundary-one : (votes : List ℕ) → 3 ≤ length votes → {c : Check} → c ≡ check_fork_vote g height (get_or votes 0 0 ∷ get_or votes 1 0 ∷ get_or votes 2 0 ∷ []) t
      → c ≡ check_fork_votes g t height (take 3 votes)
  unfolding check_fork_votes check_each_vote headers
  boundary-one [] h q = absurd (omega arith)
  boundary-one (a ∷ []) h q = absurd (omega arith)
  boundary-one (a ∷ b ∷ []) h q = absurd (omega arith)
  boundary-one (a ∷ b ∷ c ∷ votes) h q = q ∙ and-last (check_fork_vote g height (a ∷ b ∷ c ∷ []) t)

  pub others-few : (votes : List ℕ) → length votes < 3 → passed ≡ check_fork_votes g t height (drop 3 votes)
  unfolding check_fork_votes check_each_vote headers
  others-few [] h = refl
  others-few (a ∷ []) h = refl
  others-few (a ∷ b ∷ []) h = refl
  others-few (a ∷ b ∷ c ∷ votes) h = absurd (omega arith)

pub votes-few : (votes : List ℕ) → length votes < 3 → false ≡ boundary_votes votes
unfolding boundary_votes first_votes headers
votes-few [] h = refl
votes-few (a ∷ []) h = refl
votes-few (a ∷ b ∷ []) h = refl
votes-few (a ∷ b ∷ c ∷ votes) h = absurd (omega arith)

pub votes-one : (votes : List ℕ) → 3 ≤ length votes → (v : Bool) → v ≡ votes_for soft_fork_vote (get_or votes 0 0 ∷ get_or votes 1 0 ∷ get_or votes 2 0 ∷ []) → v ≡ boundary_votes votes
unfolding boundary_votes first_votes headers
votes-one [] h v q = absurd (omega arith)
votes-one (a ∷ []) h v q = absurd (omega arith)
votes-one (a ∷ b ∷ []) h v q = absurd (omega arith)
votes-one (a ∷ b ∷ c ∷ votes) h v q = q

-- the first three tests
module _ (s : Replay) (height : ℕ) (votes : List ℕ) where
  pub early-height : {e : Refusal} → Err e ≡ check_height s height → Err e ≡ check_early s height votes
  unfolding check_early
  early-height q = rw (← q)

  module _ (p : passed ≡ check_height s height) where
    pub early-headers : {e : Refusal} → Err e ≡ check_headers votes → Err e ≡ check_early s height votes
    unfolding check_early
    early-headers q = rw (← p, ← q)

    pub early-boundary : passed ≡ check_headers votes → {c : Check} → c ≡ check_fork_votes s.settings s.table height (take 3 votes) → c ≡ check_early s height votes
    unfolding check_early
    early-boundary q is-c = rw (← p, ← q, is-c)

  pub early-low : passed ≡ check_early s height votes → height + voting_length s.settings ≤ 2147483648
  unfolding check_early
  early-low p =
      (height-met s height (and-passed (check_height s height) (result_and (check_headers votes) (check_fork_votes s.settings s.table height (take 3 votes))) (sym p)).0).1

-- the tests in order
refusal-and : {A : Type 0} (c d : Check) (r : Result A Rejection) → result_and (by_refusal (result_and c d)) r ≡ result_and (by_refusal c) (result_and (by_refusal d) r)
unfolding by_refusal
refusal-and (Ok tt) d r = refl
refusal-and (Err e) d r = refl

module _ (s : Replay) (height : ℕ) (body votes : List ℕ) where
  abbrev later : ParameterMap → Result Replay Rejection
  later found = and_then (by_refusal (boundary_on s height body votes)) (after_boundary s height votes found)

  abbrev after-early : Check → Result Replay Rejection
  after-early c = result_and (by_refusal c) (and_then (by_refusal (parameters_of body)) later)

  in_order : after-early (check_early s height votes) ≡ on_parts s height body votes
  unfolding on_parts check_early
  in_order =
      let rest = and_then (by_refusal (parameters_of body)) later in
      refusal-and (check_height s height) _ rest ∙ ap (result_and (by_refusal (check_height s height))) (refusal-and (check_headers votes) _ rest)

  pub parts-early : {e : Refusal} → Err e ≡ check_early s height votes → Err (Refused e) ≡ on_parts s height body votes
  unfolding by_refusal
  parts-early q = ap after-early q ∙ in_order

  module _ (p : passed ≡ check_early s height votes) where
    after-body : {r : Result ParameterMap Refusal} → r ≡ parameters_of body → and_then (by_refusal r) later ≡ on_parts s height body votes
    unfolding by_refusal
    after-body q = ap (λ (r : Result ParameterMap Refusal). and_then (by_refusal r) later) q ∙ ap after-early p ∙ in_order

    -- the body, by what was found in it
    module _ (w : Walked) (is-w : WalkedIs body w) where
      pub parts-body : {e : Refusal} → w.fields ≡ Err e → Err (Refused e) ≡ on_parts s height body votes
      unfolding by_refusal
      parts-body {e} q = after-body (parameters-refused body e (sym q ∙ is-w.fields))

      module _ {x : Section} (fields : w.fields ≡ Ok x) where
        abbrev found : ParameterMap
        found = parameters_in (section_items (read_field body) x) no_parameters

        found_is : Ok found ≡ parameters_of body
        found_is = parameters-is body x (sym fields ∙ is-w.fields) found refl

        table_is : w.found ≡ table_in found
        table_is = is-w.found ∙ ap (λ (r : Result ParameterMap Refusal). table_in (result_unwrap_or r no_parameters)) (sym found_is)

        module _ (vote : Bool) (is-vote : vote ≡ boundary_votes votes) where
          after-computed : {r : Result Computed Refusal} → r ≡ computed_of s.settings height s.table (entries s.tally) vote (part body w.start w.end)
              → and_then (by_refusal r) (after_boundary s height votes found) ≡ on_parts s height body votes
          unfolding by_refusal
          after-computed q =
              let update = ap (computed_of s.settings height s.table (entries s.tally) (boundary_votes votes)) is-w.update.is in
              let same = ap (λ (v : Bool). computed_of s.settings height s.table (entries s.tally) v (part body w.start w.end)) is-vote in
              ap (λ (r : Result Computed Refusal). and_then (by_refusal r) (after_boundary s height votes found)) (q ∙ same ∙ update) ∙ after-body found_is

          pub parts-boundary : {e : Refusal} → Err e ≡ computed_of s.settings height s.table (entries s.tally) vote (part body w.start w.end) → Err (Refused e) ≡ on_parts s height body votes
          unfolding by_refusal
          parts-boundary q = after-computed q

          pub parts-pass : {b : Computed} → Ok b ≡ computed_of s.settings height s.table (entries s.tally) vote (part body w.start w.end)
              → {m : Result ⊤ Mismatch} → m ≡ match_found b.table w.found → after_match s height votes b.table m ≡ on_parts s height body votes
          unfolding by_refusal after_boundary
          parts-pass {b} q is_m =
              ap (after_match s height votes b.table) (is_m ∙ ap (match_found b.table) table_is ∙ match-parameters b.table found) ∙ after-computed q

-- after the match
module _ (s : Replay) (height : ℕ) (votes : List ℕ) (t : Table) where
  pub match-stop : {m : Result ⊤ Mismatch} {e : Mismatch} → m ≡ Err e → Err (Mismatched e.id) ≡ after_match s height votes t m
  unfolding after_match by_mismatch
  match-stop q = rw q

  module _ {m : Result ⊤ Mismatch} (p : m ≡ Ok tt) where
    pub others-stop : {e : Refusal} → Err e ≡ check_fork_votes s.settings t (height + 1) (drop 3 votes) → Err (Refused e) ≡ after_match s height votes t m
    unfolding after_match by_mismatch by_refusal
    others-stop q = rw (p, ← q)

    pub others-pass : passed ≡ check_fork_votes s.settings t (height + 1) (drop 3 votes) → {u : Replay} → u ≡ onward s height votes t → Ok u ≡ after_match s height votes t m
    unfolding after_match by_mismatch by_refusal
    others-pass q is-u = rw (p, ← q, is-u)

-- the record
module _ (s : Replay) (xs : List ℕ) where
  pub record-unread : {e : Unread} → Err e ≡ record_at xs (votes_size s.settings) → Err (Refused RecordMalformed) ≡ replay_of s xs
  unfolding replay_of on_record
  record-unread q = rw (← q)

  module _ (p : RecordPlace) (q : Ok p ≡ record_at xs (votes_size s.settings)) where
    pub record-more : (p.end ≡ length xs → ⊥) → Err (Refused RecordMalformed) ≡ replay_of s xs
    unfolding replay_of on_record
    record-more d = rw (← q, ne_eqb p.end (length xs) d)

    pub record-whole : p.end ≡ length xs → on_parts s p.height (body_bytes xs p) (vote_bytes xs p) ≡ replay_of s xs
    unfolding replay_of on_record
    record-whole e = rw (← q, eq-eqb p.end (length xs) e)

-- no epoch is left
no-epoch : (s : Replay) (height : ℕ) → 2 ^ 31 < s.next + voting_length s.settings → check_height s height ≡ Err HeightUnexpected
unfolding check_height
no-epoch s height l = go (eqb height s.next) (leb (height + voting_length s.settings) (2 ^ 31)) refl refl
  where
    go : (p q : Bool) → eqb height s.next ≡ p → leb (height + voting_length s.settings) (2 ^ 31) ≡ q → cond (p && q) passed (Err HeightUnexpected) ≡ Err HeightUnexpected
    go true true hp hq = absurd (omega (arith, eqb-true height s.next hp, leb-true (height + voting_length s.settings) (2 ^ 31) hq))
    go true false hp hq = refl
    go false q hp hq = refl

pub exhausted : (s : Replay) (xs : List ℕ) (r : Result Replay Rejection) → r ≡ replay_of s xs → Exhausted s xs r
exhausted s xs r e l p q w =
    let early = early-height s p.height (vote_bytes xs p) (sym (no-epoch s p.height l)) in
    e ∙ sym (parts-early s p.height (body_bytes xs p) (vote_bytes xs p) early ∙ record-whole s xs p (sym q) w)

-- the opening: its answer, the rounds, and the steps, refused or not
abbrev Opens : ℕ → Table → Result Replay Refusal → Type 0
Opens height t r = (r ≡ open_of height t) × (RoundsKept t r × (StepsKept t r × MainnetSteps t r))

steps-from : {t : Table} {n : ℕ} (s : Replay) → s ≡ record { settings = mainnet; table = t; next = n; tally = no_tally } → StepsBy (voting_length s.settings / 2) [] s × StepsBy 512 [] s
steps-from s q = opening-steps s (ap (λ (x : Replay). x.tally) q) (ap (λ (x : Replay). x.settings) q)

same-state : {s u : Replay} → ◌≡◌ {A = Result Replay Refusal} (Ok s) (Ok u) → u ≡ s
same-state z = cc

module _ (height : ℕ) (t : Table) (b : Bool) (is_b : b ≡ may_open height) where
  pub open-refused : b ≡ false → Opens height t (Err HeightUnexpected)
  unfolding open_of opened
  open-refused f =
      let k = steps-from (opened t (Err HeightUnexpected)) refl in
      (rw (← is_b, f), ((λ v l m k s z. cc), (k.0, k.1)))

  pub open-opens : b ≡ true → (s : Replay) → s ≡ record { settings = mainnet; table = t; next = height; tally = no_tally } → Opens height t (Ok s)
  unfolding open_of opened may_open
  open-opens f s q =
      let a = both (ltb 0 height && eqb (height % voting_length mainnet) 0) _ (sym is_b ∙ f) in
      let m = eqb-true (height % voting_length mainnet) 0 (both (ltb 0 height) _ a.0).1 in
      let begins : (u : Replay) → ◌≡◌ {A = Result Replay Refusal} (Ok s) (Ok u) → u ≡ record { settings = mainnet; table = t; next = height; tally = no_tally } = λ u z. same-state z ∙ q in
      let k = steps-from s q in (
        rw (← is_b, f, q),
        (
          λ v l w k u z calls.
              let i = begins u z in
              kept u v (ap (λ (x : Replay). x.settings) i) (ap (λ (x : Replay). x.next % voting_length mainnet) i ∙ m) (ap (λ (x : Replay). x.tally) i) w (ap (λ (x : Replay). x.table.fork) i ∙ k) calls,
          (k.0, k.1),
        ),
      )

-- the state that an opening gives
pub opened-is : (t : Table) (r : Result Replay Refusal) {none : Replay} → ((e : Refusal) → none ≡ opened t (Err e)) → result_unwrap_or r none ≡ opened t r
unfolding opened
opened-is t (Ok s) q = refl
opened-is t (Err e) q = q e

-- refused, it turns every well-formed record down by 26
pub refused-closed : (t : Table) (r : Result Replay Refusal) → OnErr r (Closed (opened t r))
unfolding opened mainnet
refused-closed t (Ok s) = tt
refused-closed t (Err e) = λ xs. exhausted (opened t (Err e)) xs _ refl (omega arith)
