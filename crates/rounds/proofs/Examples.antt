-- A small replay that keeps the law, and a run of it that the checker computes: accepted and refused records mixed, a round that wins, one
-- that fails, and a restart at each closing.
-- Assumes nothing.
use mathlib.Core.Path.{◌≡◌, refl, sym, ap, ◌∙◌}
use mathlib.Core.Bool.{Bool, true, false, cond, ◌&&◌}
use mathlib.Core.List.{List, [], ◌∷◌}
use Prim.Native.Nat.{ℕ, ◌+◌, ◌*◌, ◌^◌}
use native.Mathlib.Omega.{arith}
use borrow.Author.Tests.{leb-true, eqb-true}
use lib.Dec.{leb, eqb, lit<}
use lib.IntN.{pos}
use lib.ListN.{length}
use Rattle.std.specs.Prelude.{Result, Ok, Err}
use Rattle.std.specs.Result.{result_and}
use Rattle.codec.specs.declared.refusal.Refusal.{Refusal}
use Rattle.codec.specs.declared.refusal.Refusal.TheVariants.{RecordMalformed, HeightUnexpected}
use Rattle.codec.specs.Check.{Check, passed, and_then}
use Rattle.codec.specs.Refusal.{number}
use Rattle.codec.specs.Signed.{modulo, bits_of, signed_of, wrapped}
use Rattle.voting.specs.declared.settings.VotingConfig.{VotingConfig}
use Rattle.voting.specs.declared.table.Fork.{Fork}
use Rattle.voting.specs.declared.fork.ForkPart.{ForkPart}
use Rattle.counting.specs.Count.{count}
use Rattle.voting.specs.Common.{eq_z}
use Rattle.voting.specs.Settings.{voting_length, settings, fork_limit, soft_fork_approved, settings_large}
use Rattle.voting.specs.Header.{votes_in, negation, ordinary_vote, fault, fault_in, check_votes, check_header_votes, votes_for, AllLegal}
use Rattle.voting.specs.Tally.{headers, slot_entry, seeded, entry, entries, first_count, first_votes, counted_for}
use Rattle.voting.specs.ForkCheck.{epochs_after, between, barred, check_round}
use Rattle.voting.specs.ForkPart.{phase_at, fork_total, reads_total, closes_late, without, closes_early, restarts, begun, collected, rises, one_more, version_by, risen, five_steps, two_for_one, forced, finished, running, opening, by_start, fork_part}
use Rattle.rounds.specs.Epochs.{boundary_votes, counted}
use Rattle.rounds.specs.Book.{idle, since}
use Rattle.rounds.specs.Replay.{Answer, refused, accepted, Replay, run, Lawful}
use Rattle.rounds.specs.Claim.{Sound, Opening, entries_for, Promise}
use Rattle.voting.proofs.Laws.Tests.{both, and-passed, then_ok}
use Rattle.rounds.proofs.Promise.{promise}

pub record Record : Type 0 where
  pub height : ℕ
  pub votes : List ℕ

pub record State : Type 0 where
  pub fork : Fork
  pub next : ℕ
  pub before : List ℕ

unfoldable pub test : Bool → Refusal → Check
test b e = cond b passed (Err e)

unfoldable pub illegal : List (List ℕ) → Check
illegal [] = passed
illegal (h ∷ hs) = result_and (check_header_votes h) (illegal hs)

abbrev brings : State → ℕ
brings s = first_count (pos 120) (entries (seeded s.before))

abbrev part : VotingConfig → State → Record → Result ForkPart Refusal
part g s r = fork_part g r.height (boundary_votes r.votes) (brings s) s.fork

unfoldable pub next_state : VotingConfig → State → Record → Result State Refusal
next_state g s r =
    result_and (test (eqb (length r.votes) (3 * voting_length g)) RecordMalformed)
    (result_and (test (eqb r.height s.next && leb (r.height + voting_length g) (2 ^ 31)) HeightUnexpected)
    (result_and (illegal (headers r.votes))
    (result_and (cond (boundary_votes r.votes) (check_round g r.height s.fork.start s.fork.votes) passed)
    (and_then (part g s r) (λ p. Ok (record { fork = p.fork; next = r.height + voting_length g; before = r.votes }))))))

unfoldable pub answer : Result State Refusal → Answer State
answer (Ok t) = accepted t
answer (Err e) = refused (number e)

unfoldable pub step : VotingConfig → State → Record → Answer State
step g s r = answer (next_state g s r)

abbrev pub replay : VotingConfig → Replay
replay g =
    record {
      State = State;
      Record = Record;
      fork = λ s. s.fork;
      next = λ s. s.next;
      fork_votes = brings;
      height = λ r. r.height;
      votes = λ r. r.votes;
      step = step g;
    }

-- ---- it keeps the law

was-ok : (a : Result State Refusal) (t : State) → answer a ≡ accepted t → a ≡ Ok t
unfolding answer
was-ok (Ok s) t e = let q : s ≡ t = cc in ap Ok q
was-ok (Err n) t e = cc

-- a check and what came after it
and-ok : (r : Check) (s : Result State Refusal) {t : State} → result_and r s ≡ Ok t → (r ≡ passed) × (s ≡ Ok t)
and-ok (Ok x) s q = (refl, q)
and-ok (Err e) s q = cc

test-passed : (b : Bool) (e : Refusal) → test b e ≡ passed → b ≡ true
unfolding test
test-passed true e q = refl
test-passed false e q = cc

legal : (hs : List (List ℕ)) → illegal hs ≡ passed → AllLegal hs
unfolding illegal
legal [] e = tt
legal (h ∷ hs) e = let q = and-passed (check_header_votes h) (illegal hs) e in (q.0, legal hs q.1)

pub lawful : (g : VotingConfig) → Lawful g (replay g)
unfolding step next_state
lawful g s r t e =
    let e₁ = and-ok _ _ (was-ok _ t e) in
    let e₂ = and-ok _ _ e₁.1 in
    let e₃ = and-ok _ _ e₂.1 in
    let e₄ = and-ok _ _ e₃.1 in
    let left = then_ok (part g s r) _ e₄.1 in
    let is-t : record { fork = left.0.fork; next = r.height + voting_length g; before = r.votes } ≡ t = cc in
    let at = both (eqb r.height s.next) (leb (r.height + voting_length g) (2 ^ 31)) (test-passed _ _ e₂.0) in
    record {
      long = eqb-true _ _ (test-passed _ _ e₁.0);
      height = eqb-true r.height s.next at.0;
      top = leb-true (r.height + voting_length g) (2 ^ 31) at.1;
      legal = legal (headers r.votes) e₃.0;
      check = λ v. ap (λ (b : Bool). cond b (check_round g r.height s.fork.start s.fork.votes) passed) (sym v) ∙ e₄.0;
      part = rw left.1 (sym (ap (λ (z : State). z.fork) is-t));
      next = sym (ap (λ (z : State). z.next) is-t);
      brings = sym (ap (λ (z : State). brings z) is-t);
    }

-- ---- a run: two headers an epoch, one vote epoch, one activation epoch; more than 1 vote wins

abbrev small : VotingConfig
small = settings 2 1 1 100

abbrev epoch : ℕ → ℕ → ℕ → Record
epoch h a b = record { height = h; votes = a ∷ 0 ∷ 0 ∷ b ∷ 0 ∷ 0 ∷ [] }

abbrev start : State
start = record { fork = entries_for idle 1; next = 2; before = [] }

-- Opened at 2 by two votes; a record at 5 and a vote at 4 are refused; counted at 4, risen at 6, where a vote is refused again; closed at 8 and
-- opened anew; one vote is not enough; an illegal header is refused; closed at 12 and opened anew.
a-run : run (replay small) start
    (epoch 2 120 120 ∷ epoch 5 0 0 ∷ epoch 4 120 0 ∷ epoch 4 0 0 ∷ epoch 6 120 0 ∷ epoch 6 0 0 ∷ epoch 8 120 0 ∷ epoch 10 1 1 ∷ epoch 12 128 0 ∷ epoch 12 120 120 ∷ [])
    ≡ record { fork = entries_for (since 12 0) 2; next = 14; before = 120 ∷ 0 ∷ 0 ∷ 120 ∷ 0 ∷ 0 ∷ [] }
unfolding run step answer next_state test illegal check_header_votes check_votes votes_in negation ordinary_vote fault fault_in votes_for count eq_z headers slot_entry seeded entry entries first_count first_votes boundary_votes epochs_after between barred check_round phase_at fork_total reads_total closes_late without closes_early restarts begun collected rises one_more version_by risen five_steps two_for_one forced finished running opening by_start fork_part fork_limit soft_fork_approved settings_large modulo bits_of signed_of wrapped
a-run = refl

-- and the promise holds of it, from this start
small-sound : Sound small
unfolding settings_large
small-sound = record { length-positive = lit< tt; votes-positive = lit< tt; moderate = refl }

small-opening : Opening small (replay small) start 1 []
unfolding seeded entries entry first_count eq_z counted counted_for boundary_votes first_votes headers
small-opening = record { multiple = refl; version-small = omega arith; table = refl; brought = refl; few = omega arith }

small-promise : (rs : List Record) → Promise small (replay small) start 1 [] rs
small-promise rs = promise small (replay small) start 1 [] small-sound (lawful small) small-opening rs
