-- The steps of the ordinary parameters, over every list of byte strings handed to the replay.
-- Assumes nothing.
use mathlib.Core.Path.{◌≡◌, refl, sym, ap, ◌∙◌, subst}
use mathlib.Core.List.{List, [], ◌∷◌}
use Prim.Native.Nat.{ℕ, ◌-◌, ◌/◌, ◌<◌}
use lib.ListN.{drop}
use Rattle.std.specs.Prelude.{Result, Ok, Err}
use Rattle.std.specs.Result.{result_unwrap_or}
use Rattle.codec.specs.declared.refusal.Refusal.{Refusal}
use Rattle.voting.specs.declared.settings.VotingConfig.{VotingConfig}
use Rattle.voting.specs.declared.table.Table.{Table}
use Rattle.voting.specs.declared.tally.Tally.{Tally}
use Rattle.voting.specs.declared.boundary.Boundary.{Boundary}
use Rattle.voting.specs.Common.{Each, Bytes}
use Rattle.voting.specs.Settings.{voting_length, mainnet}
use Rattle.voting.specs.Header.{AllLegal}
use Rattle.voting.specs.Tally.{headers, whole, no_tally, seeded, entries}
use Rattle.voting.specs.Boundary.{boundary_of}
use Rattle.voting.specs.Steps.{Stepped}
use Rattle.voting.proofs.Laws.Each.{each_take, each-drop}
use Rattle.voting.proofs.Laws.Tally.{whole-threes}
use Rattle.voting.proofs.Laws.Steps.{boundary-steps}
use Rattle.rounds.specs.Epochs.{boundary_votes, last_of}
use Rattle.rounds.specs.Replay.{after, add-epoch, epochs}
use Rattle.archive.specs.declared.record.RecordPlace.{RecordPlace}
use Rattle.archive.specs.declared.record.Unread.{Unread}
use Rattle.archive.specs.declared.replay.Replay.{Replay}
use Rattle.archive.specs.declared.replay.Rejection.{Rejection}
use Rattle.archive.specs.declared.replay.Rejection.TheVariants.{Refused, Mismatch}
use Rattle.archive.specs.Record.{record_at}
use Rattle.archive.specs.Replay.{votes_size, replay_of, state_by}
use Rattle.archive.specs.Rounds.{core, answer, record_votes, interface, state_after}
use Rattle.archive.specs.Steps.{epoch_before, StepsBy}
use Rattle.archive.proofs.Laws.Rounds.{height_in, votes_of, met, settings-kept, goes_on}

-- the tally of a state is that of these vote bytes of legal headers
pub record Brings (s : Replay) (epoch : List ℕ) : Type 0 where
  pub tally-is : s.tally ≡ seeded epoch
  pub all-bytes : Bytes epoch
  pub all_whole : whole epoch ≡ epoch
  pub all-legal : AllLegal (headers epoch)

-- ---- one record

one-boundary : (s : Replay) (epoch : List ℕ) → Brings s epoch → (xs : List ℕ) (next : Replay) → replay_of s xs ≡ Ok next
    → Stepped (voting_length s.settings / 2) epoch s.table next.table
one-boundary s epoch b xs next e =
    let m = met s xs next e in
    let g = s.settings in
    let vote = boundary_votes (votes_of s xs) in
    let bound : Tally → Result Boundary Refusal = λ y. boundary_of g (height_in s xs) s.table (entries y) vote m.disabled in
    subst (λ (t : Table). Stepped (voting_length g / 2) epoch s.table t) (sym m.new-table)
    (boundary-steps g (height_in s xs) s.table epoch vote m.disabled b.all-bytes b.all_whole b.all-legal m.boundary (ap bound (sym b.tally-is) ∙ m.passes))

-- the vote bytes of a record of bytes are bytes
votes-bytes : (xs : List ℕ) (x : Result RecordPlace Unread) → Bytes xs → Bytes (record_votes xs x)
unfolding record_votes
votes-bytes xs (Ok p) h = each_take (λ b. b < 256) (p.end - p.votes) (drop p.votes xs) (each-drop (λ b. b < 256) p.votes xs h)
votes-bytes xs (Err e) h = tt

brings-own : (s : Replay) (xs : List ℕ) → Bytes xs → (next : Replay) → replay_of s xs ≡ Ok next → Brings next (votes_of s xs)
brings-own s xs b next e =
    let m = met s xs next e in
    record {
      tally-is = m.brings;
      all-bytes = votes-bytes xs (record_at xs (votes_size s.settings)) b;
      all_whole = whole-threes (votes_of s xs) (voting_length s.settings) m.long;
      all-legal = m.all-legal;
    }

-- ---- one call after another

-- the epoch before the next call
abbrev newest : Result Replay Rejection → List ℕ → List ℕ → List ℕ
newest (Ok next) votes before = votes
newest (Err e) votes before = before

module _ (s : Replay) (xs before : List ℕ) where
  abbrev noted : List ℕ
  noted = newest (replay_of s xs) (votes_of s xs) before

  brings-next : Bytes xs → Brings s before → Brings (state_by s xs) noted
  unfolding state_by
  brings-next b h = go (replay_of s xs) (brings-own s xs b)
    where
      go : (r : Result Replay Rejection) → ((next : Replay) → r ≡ Ok next → Brings next (votes_of s xs)) → Brings (result_unwrap_or r s) (newest r (votes_of s xs) before)
      go (Ok next) own = own next refl
      go (Err e) own = h

  epoch-next : (calls : List (List ℕ)) → epoch_before before s (xs ∷ calls) ≡ epoch_before noted (state_by s xs) calls
  unfolding epoch_before last_of epochs add-epoch state_by answer
  epoch-next calls = go (replay_of s xs) (settings-kept s xs)
    where
      go : (r : Result Replay Rejection) → ((next : Replay) → r ≡ Ok next → next.settings ≡ s.settings)
          → last_of before (add-epoch (interface s.settings) xs (answer (core s) r) (epochs (interface s.settings) (after (interface s.settings) (core s) (answer (core s) r)) calls))
          ≡ epoch_before (newest r (votes_of s xs) before) (result_unwrap_or r s) calls
      go (Ok next) k = ap (λ (g : VotingConfig). last_of (votes_of s xs) (epochs (interface g) (core next) calls)) (sym (k next refl))
      go (Err (Refused e)) k = refl
      go (Err (Mismatch id)) k = refl

brings-after : (s : Replay) (before : List ℕ) (calls : List (List ℕ)) → Each Bytes calls → Brings s before → Brings (state_after s calls) (epoch_before before s calls)
unfolding state_after epoch_before epochs last_of
brings-after s before [] b h = h
brings-after s before (xs ∷ calls) b h =
    subst (Brings (state_after (state_by s xs) calls)) (sym (epoch-next s xs before calls))
    (brings-after (state_by s xs) (noted s xs before) calls b.1 (brings-next s xs before b.0 h))

-- ---- the promise

pub steps-kept : (s : Replay) (before : List ℕ) → Brings s before → StepsBy (voting_length s.settings / 2) before s
steps-kept s before h calls b xs next e =
    subst (λ (g : VotingConfig). Stepped (voting_length g / 2) (epoch_before before s calls) (state_after s calls).table next.table)
    (goes_on s.settings s refl calls).0
    (one-boundary (state_after s calls) (epoch_before before s calls) (brings-after s before calls b h) xs next e)

-- an empty tally
begins : (s : Replay) → s.tally ≡ no_tally → Brings s []
unfolding seeded whole headers
begins s e = record { tally-is = e; all-bytes = tt; all_whole = refl; all-legal = tt }

half-mainnet : voting_length mainnet / 2 ≡ 512
unfolding mainnet
half-mainnet = refl

-- what an opening promises, by its settings and in mainnet's numbers
pub opening-steps : (s : Replay) → s.tally ≡ no_tally → s.settings ≡ mainnet → StepsBy (voting_length s.settings / 2) [] s × StepsBy 512 [] s
opening-steps s e g =
    let k = steps-kept s [] (begins s e) in
    (k, subst (λ (n : ℕ). StepsBy n [] s) (ap (λ (c : VotingConfig). voting_length c / 2) g ∙ half-mainnet) k)
