-- The replay keeps the law of the rounds, and so the promise holds of it.
-- Assumes nothing.
use mathlib.Core.Path.{◌≡◌, refl, sym, ap, subst, ◌∙◌}
use mathlib.Core.Bool.{Bool, true, false, cond, ◌&&◌, ◌||◌, true≢false}
use mathlib.Core.List.{List, [], ◌∷◌}
use Prim.Native.Nat.{ℕ, ◌+◌, ◌*◌, ◌/◌, ◌%◌, ◌^◌, ◌≤◌}
use native.Mathlib.Omega.{arith}
use borrow.Author.Tests.{eqb-true, leb-true, ltb-false, le-ltb, eq-eqb}
use lib.Dec.{ltb, leb, eqb}
use lib.IntN.{pos}
use lib.ListN.{length, take, drop}
use Rattle.std.specs.Prelude.{Result, Ok, Err, ⊤, None, Some}
use Rattle.std.specs.Result.{result_and, result_unwrap_or}
use Rattle.codec.specs.declared.refusal.Refusal.{Refusal}
use Rattle.codec.specs.declared.refusal.Refusal.TheVariants.{SettingLarge, VotingLengthZero, RecordMalformed, HeightUnexpected}
use Rattle.codec.specs.Check.{Check, passed}
use Rattle.voting.specs.declared.settings.VotingConfig.{VotingConfig}
use Rattle.voting.specs.declared.table.Table.{Table}
use Rattle.voting.specs.declared.table.Fork.{Fork}
use Rattle.voting.specs.declared.tally.Tally.{Tally}
use Rattle.voting.specs.declared.tally.Entry.{Entry}
use Rattle.voting.specs.declared.fork.ForkPart.{ForkPart}
use Rattle.voting.specs.declared.boundary.Boundary.{Boundary}
use Rattle.voting.specs.Common.{eq_z}
use Rattle.voting.specs.Settings.{voting_length, vote_epochs, activation_epochs, mainnet, settings_large}
use Rattle.voting.specs.Table.{lookup, fork_entries}
use Rattle.voting.specs.Header.{soft_fork_vote, check_header_votes, votes_for, AllLegal}
use Rattle.voting.specs.Tally.{headers, no_tally, seeded, seeds, tally_votes_seeded, entry, entries, first_count, first_votes, counted_for}
use Rattle.voting.specs.ForkCheck.{check_round, check_fork_vote}
use Rattle.voting.specs.ForkPart.{by_start, fork_part}
use Rattle.voting.specs.Boundary.{boundary_of}
use Rattle.voting.proofs.Laws.Tests.{both, neither, then_ok, and-passed}
use Rattle.voting.proofs.Laws.Tally.{whole-threes}
use Rattle.voting.proofs.Laws.Boundary.{passes}
use Rattle.rounds.specs.Epochs.{boundary_votes, counted}
use Rattle.rounds.specs.Claim.{Opening}
use Rattle.rounds.proofs.Mainnet.{mainnet-promise}
use Rattle.rounds.specs.Replay as Interface
use Rattle.rounds.specs.Replay.{Answer, refused, accepted, run, fork_after, Lawful}
use Rattle.extension.specs.declared.boundary.Computed.{Computed}
use Rattle.extension.specs.declared.parameters.Mismatch.{Mismatch}
use Rattle.extension.specs.Body.{proposed_update}
use Rattle.extension.specs.Parameters.{parameters_of, check_parameters}
use Rattle.extension.specs.Update.{update_of, disables}
use Rattle.extension.specs.Boundary.{activates, computed_of}
use Rattle.archive.specs.declared.record.RecordPlace.{RecordPlace}
use Rattle.archive.specs.declared.record.Unread.{Unread}
use Rattle.archive.specs.declared.replay.Replay.{Replay}
use Rattle.archive.specs.declared.replay.Rejection.{Rejection}
use Rattle.archive.specs.declared.replay.Rejection.TheVariants.{Refused, Mismatch as Mismatched}
use Rattle.archive.specs.Record.{record_at}
use Rattle.headers.specs.Headers.{check_each, check_headers}
use Rattle.archive.specs.ForkVotes.{check_each_vote, check_fork_votes}
use Rattle.archive.specs.Replay.{by_refusal, by_mismatch, body_bytes, vote_bytes, onward, check_height, boundary_on, after_match, after_boundary, on_parts, on_record, votes_size, replay_of, state_by}
use Rattle.archive.proofs.Laws.RecordTrip.{votes-long}
use Rattle.archive.specs.Rounds.{Core, core, full, answer, record_height, record_votes, interface, state_after, Kept}

-- an answer that goes on, taken apart
gate-ok : {A : Type 0} (c : Check) (r : Result A Rejection) {x : A} → result_and (by_refusal c) r ≡ Ok x → (c ≡ passed) × (r ≡ Ok x)
unfolding by_refusal
gate-ok (Ok tt) r q = (refl, q)
gate-ok (Err e) r q = cc

by_refusal-ok : {A : Type 0} (r : Result A Refusal) {x : A} → by_refusal r ≡ Ok x → r ≡ Ok x
unfolding by_refusal
by_refusal-ok (Ok y) q = cc
by_refusal-ok (Err e) q = cc

-- the tests of the headers
legal : (hs : List (List ℕ)) → check_each hs ≡ passed → AllLegal hs
unfolding check_each
legal [] e = tt
legal (h ∷ hs) e = let q = and-passed (check_header_votes h) (check_each hs) e in (q.0, legal hs q.1)

vote-allowed : (g : VotingConfig) (height : ℕ) (h : List ℕ) (t : Table) → check_fork_vote g height h t ≡ passed → votes_for soft_fork_vote h ≡ true
    → check_round g height t.fork.start t.fork.votes ≡ passed
unfolding check_fork_vote lookup
vote-allowed g height h t e v = go (settings_large g) (votes_for soft_fork_vote h) v e
  where
    go : (p q : Bool) → q ≡ true → cond p (Err SettingLarge) (cond q (check_round g height t.fork.start t.fork.votes) passed) ≡ passed
        → check_round g height t.fork.start t.fork.votes ≡ passed
    go true q i x = cc
    go false true i x = x
    go false false i x = absurd (true≢false (sym i))

-- the boundary header, by itself
boundary-allowed : (g : VotingConfig) (t : Table) (height : ℕ) (votes : List ℕ) → check_fork_votes g t height (take 3 votes) ≡ passed → boundary_votes votes ≡ true
    → check_round g height t.fork.start t.fork.votes ≡ passed
unfolding check_fork_votes check_each_vote headers boundary_votes first_votes
boundary-allowed g t height [] e v = absurd (true≢false (sym v))
boundary-allowed g t height (a ∷ []) e v = absurd (true≢false (sym v))
boundary-allowed g t height (a ∷ b ∷ []) e v = absurd (true≢false (sym v))
boundary-allowed g t height (a ∷ b ∷ c ∷ votes) e v =
    vote-allowed g height (a ∷ b ∷ c ∷ []) t (and-passed (check_fork_vote g height (a ∷ b ∷ c ∷ []) t) passed e).0 v

-- the boundary that passes: its table is that of the boundary without an update's bytes
record Bounded (g : VotingConfig) (height : ℕ) (t : Table) (tally : List Entry) (vote : Bool) (new : Table) : Type 0 where
  disabled : Bool
  boundary : Boundary
  passes : boundary_of g height t tally vote disabled ≡ Ok boundary
  new-table : new ≡ boundary.table

computed-passes : (g : VotingConfig) (height : ℕ) (t : Table) (tally : List Entry) (vote : Bool) (s : List ℕ) (c : Computed) → computed_of g height t tally vote s ≡ Ok c
    → Bounded g height t tally vote c.table
unfolding computed_of activates
computed-passes g height t tally vote s c e =
    let a = then_ok (update_of s) _ e in
    let b = then_ok (boundary_of g height t tally vote (disables s a.0 409)) _ a.2 in
    let r : Ok (activates a.0 b.0) ≡ Ok c = b.2 in
    let i : c ≡ activates a.0 b.0 = cc in
    record { disabled = disables s a.0 409; boundary = b.0; passes = b.1; new-table = ap (λ (x : Computed). x.table) i }

not-large : (g : VotingConfig) (height : ℕ) (vote : Bool) (votes : ℕ) (f : Fork) (p : ForkPart) → fork_part g height vote votes f ≡ Ok p → voting_length g ≤ 65535
unfolding fork_part settings_large
not-large g height vote votes f p e = go (eqb (voting_length g) 0) (settings_large g) refl e
  where
    go : (z q : Bool) → settings_large g ≡ q → cond z (Err VotingLengthZero) (cond q (Err SettingLarge) (by_start g height vote votes f f.start)) ≡ Ok p → voting_length g ≤ 65535
    go true q i x = cc
    go false true i x = cc
    go false false i x =
        let a = neither (ltb 65535 (voting_length g) || ltb 65535 (vote_epochs g)) (ltb 65535 (activation_epochs g)) i in
        ltb-false 65535 (voting_length g) (neither (ltb 65535 (voting_length g)) (ltb 65535 (vote_epochs g)) a.0).0

-- the tally of an epoch's own headers
own-tally : (height l : ℕ) (votes : List ℕ) → length votes ≡ 3 * l → l ≤ 65535 → result_unwrap_or (tally_votes_seeded height votes (height + l) l) no_tally ≡ seeded votes
unfolding tally_votes_seeded seeds
own-tally height l votes e m =
    let f : length votes / 3 ≤ 65536 = omega arith in
    rw (le-ltb 65536 (length votes / 3) f, eq-eqb (height + l) (height + l) refl, whole-threes votes l e)

-- what an accepted record has met and left
pub record Met (s : Replay) (height : ℕ) (votes : List ℕ) (u : Replay) : Type 0 where
  pub long : length votes ≡ 3 * voting_length s.settings
  pub height-is : height ≡ s.next
  pub top : height + voting_length s.settings ≤ 2 ^ 31
  pub all-legal : AllLegal (headers votes)
  pub check : boundary_votes votes ≡ true → check_round s.settings height s.table.fork.start s.table.fork.votes ≡ passed
  pub disabled : Bool
  pub boundary : Boundary
  pub passes : boundary_of s.settings height s.table (entries s.tally) (boundary_votes votes) disabled ≡ Ok boundary
  pub new-table : u.table ≡ boundary.table
  pub next-is : u.next ≡ height + voting_length s.settings
  pub brings : u.tally ≡ seeded votes
  pub settings-stay : u.settings ≡ s.settings

matched-accepts : (s : Replay) (height : ℕ) (votes : List ℕ) (t : Table) (m : Result ⊤ Mismatch) (u : Replay) → after_match s height votes t m ≡ Ok u → u ≡ onward s height votes t
unfolding after_match by_mismatch
matched-accepts s height votes t (Ok tt) u e =
    let last : Ok (onward s height votes t) ≡ Ok u = (gate-ok (check_fork_votes s.settings t (height + 1) (drop 3 votes)) _ e).1 in
    cc
matched-accepts s height votes t (Err m) u e = cc

pub height-met : (s : Replay) (height : ℕ) → check_height s height ≡ passed → (height ≡ s.next) × (height + voting_length s.settings ≤ 2 ^ 31)
unfolding check_height
height-met s height e = let w = both (eqb height s.next) (leb (height + voting_length s.settings) (2 ^ 31)) (go (eqb height s.next && leb (height + voting_length s.settings) (2 ^ 31)) e) in
    (eqb-true height s.next w.0, leb-true (height + voting_length s.settings) (2 ^ 31) w.1)
  where
    go : (b : Bool) → cond b passed (Err HeightUnexpected) ≡ passed → b ≡ true
    go true q = refl
    go false q = cc

-- by the table that the boundary computes
left : (s : Replay) (height : ℕ) (votes : List ℕ) (u : Replay) (t : Table) → Bounded s.settings height s.table (entries s.tally) (boundary_votes votes) t → u ≡ onward s height votes t
    → length votes ≡ 3 * voting_length s.settings → (height ≡ s.next) × (height + voting_length s.settings ≤ 2 ^ 31) → AllLegal (headers votes)
    → (boundary_votes votes ≡ true → check_round s.settings height s.table.fork.start s.table.fork.votes ≡ passed) → Met s height votes u
left s height votes u t b q l h legal check =
    let g = s.settings in
    let p = passes g height s.table (entries s.tally) (boundary_votes votes) b.disabled b.boundary b.passes in
    let m = not-large g height (boundary_votes votes) (first_count (pos soft_fork_vote) (entries s.tally)) s.table.fork p.part p.part-passes in
    record {
      long = l;
      height-is = h.0;
      top = h.1;
      all-legal = legal;
      check = check;
      disabled = b.disabled;
      boundary = b.boundary;
      passes = b.passes;
      new-table = ap (λ (x : Replay). x.table) q ∙ b.new-table;
      next-is = ap (λ (x : Replay). x.next) q;
      brings = ap (λ (x : Replay). x.tally) q ∙ own-tally height (voting_length g) votes l m;
      settings-stay = ap (λ (x : Replay). x.settings) q;
    }

parts-met : (s : Replay) (height : ℕ) (body votes : List ℕ) (u : Replay) → length votes ≡ 3 * voting_length s.settings → on_parts s height body votes ≡ Ok u → Met s height votes u
unfolding on_parts after_boundary check_headers
parts-met s height body votes u l e₀ =
    let g = s.settings in
    let a₁ = gate-ok (check_height s height) _ e₀ in
    let a₂ = gate-ok (check_headers votes) _ a₁.1 in
    let a₃ = gate-ok (check_fork_votes s.settings s.table height (take 3 votes)) _ a₂.1 in
    let a₄ = then_ok (by_refusal (parameters_of body)) _ a₃.1 in
    let a₅ = then_ok (by_refusal (boundary_on s height body votes)) (after_boundary s height votes a₄.0) a₄.2 in
    let c = a₅.0 in
    let q = matched-accepts s height votes c.table (check_parameters c.table a₄.0) u a₅.2 in
    let b = computed-passes g height s.table (entries s.tally) (boundary_votes votes) (proposed_update body) c (by_refusal-ok (boundary_on s height body votes) a₅.1) in
    left s height votes u c.table b q l (height-met s height a₁.0) (legal (headers votes) a₂.0) (boundary-allowed g s.table height votes a₃.0)

-- ---- the law

record-met : (s : Replay) (xs : List ℕ) (u : Replay) (x : Result RecordPlace Unread) → x ≡ record_at xs (votes_size s.settings) → on_record s xs x ≡ Ok u
    → Met s (record_height x) (record_votes xs x) u
unfolding on_record record_height record_votes
record-met s xs u (Ok p) q e = go (eqb p.end (length xs)) e
  where
    l : length (vote_bytes xs p) ≡ 3 * voting_length s.settings
    l = votes-long xs (votes_size s.settings) p q

    go : (b : Bool) → cond b (on_parts s p.height (body_bytes xs p) (vote_bytes xs p)) (Err (Refused RecordMalformed)) ≡ Ok u → Met s p.height (vote_bytes xs p) u
    go true x = parts-met s p.height (body_bytes xs p) (vote_bytes xs p) u l x
    go false x = cc
record-met s xs u (Err r) q e = cc

-- the height and the vote bytes of a byte string, by a state's settings
abbrev pub height_in : Replay → List ℕ → ℕ
height_in s xs = record_height (record_at xs (votes_size s.settings))

abbrev pub votes_of : Replay → List ℕ → List ℕ
votes_of s xs = record_votes xs (record_at xs (votes_size s.settings))

pub met : (s : Replay) (xs : List ℕ) (u : Replay) → replay_of s xs ≡ Ok u → Met s (height_in s xs) (votes_of s xs) u
unfolding replay_of
met s xs u e = record-met s xs u (record_at xs (votes_size s.settings)) refl e

turned-down : {n : ℕ} {t : Core} → ◌≡◌ {A = Answer Core} (refused n) (accepted t) → ⊥
turned-down e = cc

answer-accepts : (c : Core) (r : Result Replay Rejection) (t : Core) → answer c r ≡ accepted t → (u : Replay) × (r ≡ Ok u) × (core u ≡ t)
unfolding answer
answer-accepts c (Ok u) t e = (u, refl, cc)
answer-accepts c (Err (Refused k)) t e = absurd (turned-down e)
answer-accepts c (Err (Mismatched id)) t e = absurd (turned-down e)

pub lawful : (g : VotingConfig) → Lawful g (interface g)
lawful g c xs t e =
    let s = full g c in
    let a = answer-accepts c (replay_of s xs) t e in
    let u = a.0 in
    let m = met s xs u a.1 in
    let p = passes g (height_in s xs) c.table (entries c.tally) (boundary_votes (votes_of s xs)) m.disabled m.boundary m.passes in
    record {
      long = m.long;
      height = m.height-is;
      top = m.top;
      legal = m.all-legal;
      check = m.check;
      part = ap (λ (x : Core). x.table.fork) (sym a.2) ∙ ap (λ (x : Table). x.fork) m.new-table ∙ p.new-fork ∙ sym (ap (fork_after c.table.fork) p.part-passes);
      next = ap (λ (x : Core). x.next) (sym a.2) ∙ m.next-is;
      brings = ap (λ (x : Core). first_count (pos soft_fork_vote) (entries x.tally)) (sym a.2) ∙ ap (λ (y : Tally). first_count (pos soft_fork_vote) (entries y)) m.brings;
    }

-- an accepted record's epoch ends at 2^31 or before, where the next one begins
pub accepted-at : (s : Replay) (xs : List ℕ) (u : Replay) → replay_of s xs ≡ Ok u
    → (s.next + voting_length s.settings ≤ 2 ^ 31) × (u.next ≡ s.next + voting_length s.settings)
accepted-at s xs u e =
    let m = met s xs u e in
    let l = voting_length s.settings in
    (subst (λ (h : ℕ). h + l ≤ 2 ^ 31) m.height-is m.top, m.next-is ∙ ap (λ (h : ℕ). h + l) m.height-is)

-- ---- the replay's own states

-- an accepted record leaves the settings
pub settings-kept : (s : Replay) (xs : List ℕ) (u : Replay) → replay_of s xs ≡ Ok u → u.settings ≡ s.settings
settings-kept s xs u e = (met s xs u e).settings-stay

-- a record that is turned down leaves the state as it was, and one that is accepted the settings
abbrev pub KeepsBy : Replay → List ℕ → Result Replay Rejection → Type 0
KeepsBy s xs r = ((e : Rejection) → r ≡ Err e → state_by s xs ≡ s) × ((t : Replay) → r ≡ Ok t → t.settings ≡ s.settings)

abbrev pub Keeps : Replay → List ℕ → Type 0
Keeps s xs = KeepsBy s xs (replay_of s xs)

pub keeps : (s : Replay) (xs : List ℕ) → Keeps s xs
unfolding state_by
keeps s xs = (λ e q. ap (λ (r : Result Replay Rejection). result_unwrap_or r s) q, settings-kept s xs)

-- one call: the settings stay, and the rest of the state is what the rounds see
call-goes : (s : Replay) (xs : List ℕ)
    → ((state_by s xs).settings ≡ s.settings) × (core (state_by s xs) ≡ Interface.after (interface s.settings) (core s) (answer (core s) (replay_of s xs)))
unfolding state_by answer
call-goes s xs = go (replay_of s xs) refl
  where
    k : Keeps s xs
    k = keeps s xs

    go : (r : Result Replay Rejection) → replay_of s xs ≡ r
        → ((state_by s xs).settings ≡ s.settings) × (core (state_by s xs) ≡ Interface.after (interface s.settings) (core s) (answer (core s) r))
    go (Ok u) q =
        let i : state_by s xs ≡ u = ap (λ (r : Result Replay Rejection). result_unwrap_or r s) q in
        (ap (λ (x : Replay). x.settings) i ∙ k.1 u q, ap core i)
    go (Err (Refused e)) q = let i = k.0 (Refused e) q in (ap (λ (x : Replay). x.settings) i, ap core i)
    go (Err (Mismatched id)) q = let i = k.0 (Mismatched id) q in (ap (λ (x : Replay). x.settings) i, ap core i)

pub goes_on : (g : VotingConfig) (s : Replay) → s.settings ≡ g → (calls : List (List ℕ))
    → ((state_after s calls).settings ≡ g) × (core (state_after s calls) ≡ run (interface g) (core s) calls)
unfolding state_after run
goes_on g s e [] = (e, refl)
goes_on g s e (xs ∷ calls) =
    let a = call-goes s xs in
    let r = goes_on g (state_by s xs) (a.0 ∙ e) calls in
    (r.0, r.1 ∙ ap (λ (c : Core). run (interface g) c calls) (subst (λ (h : VotingConfig). core (state_by s xs) ≡ Interface.after (interface h) (core s) (answer (core s) (replay_of (full h (core s)) xs))) e a.1))

-- ---- the theorem

opening : (s : Replay) (version : ℕ) → s.settings ≡ mainnet → s.next % voting_length mainnet ≡ 0 → s.tally ≡ no_tally → version ≤ 255 → s.table.fork ≡ fork_entries None None (Some (pos version))
    → Opening mainnet (interface mainnet) (core s) version []
unfolding mainnet counted counted_for first_votes headers first_count entries entry eq_z
opening s version e m y v f =
    record { multiple = m; version-small = v; table = f; brought = ap (λ (z : Tally). first_count (pos soft_fork_vote) (entries z)) y ∙ no-votes; few = none }
  where
    no-votes : first_count (pos soft_fork_vote) (entries no_tally) ≡ counted []
    no-votes = refl

    none : counted [] ≤ voting_length mainnet
    none = omega arith

pub kept : (s : Replay) (version : ℕ) → s.settings ≡ mainnet → s.next % voting_length mainnet ≡ 0 → s.tally ≡ no_tally → version ≤ 255 → s.table.fork ≡ fork_entries None None (Some (pos version))
    → (calls : List (List ℕ)) → Kept s version calls
kept s version e m y v f calls =
    let a = goes_on mainnet s e calls in
    record {
      settings-stay = a.0 ∙ sym e;
      same-run = a.1;
      promise = mainnet-promise (interface mainnet) (lawful mainnet) (core s) version [] (opening s version e m y v f) calls;
    }
