-- What a call answers in one number, by its tests. Assumes nothing.
use mathlib.Core.Path.{◌≡◌, refl, sym, ap, ◌∙◌}
use mathlib.Core.List.{List, [], ◌∷◌}
use Prim.Native.Nat.{ℕ, zero, suc, ◌+◌, ◌-◌, ◌*◌, ◌^◌, ◌≤◌, ◌<◌}
use native.Mathlib.Nat.{mod-eq_of_lt}
use native.Mathlib.Omega.{arith}
use lib.ListN.{get_or}
use Rattle.codec.specs.BigEndian.{big_endian}
use Rattle.codec.specs.declared.refusal.Refusal.TheVariants.{BodyShort, CountUnreadable, FieldHeaderCut, ValueLong, ValueCut, ParameterSize, UpdateUnreadable, MandatoryDisabled, TooManyVotes, RepeatedVote, ContradictoryVote, ForkVoteBarred, UnknownParameter, AbsentParameter, EntryDiffers, BlockVersionDiffers, VotingLengthZero, SettingLarge, VotesCollectedAbsent, BlockVersionAbsent, OutputShort, InputLong, StatusRuleLow, WrittenValueLong, WindowLengthOutside, RecordMalformed, HeightUnexpected}
use Rattle.codec.specs.Signed.{bits_of, modulo}
use Rattle.codec.specs.Output.{Outcome, refused, outcome, writes}
use Rattle.std.specs.Prelude.{Result, Ok, Err, Option, Some, None}
use Rattle.codec.specs.declared.refusal.Refusal.{Refusal}
use Rattle.codec.specs.Refusal.{number as number_in}
use Rattle.codec.proofs.Laws.Output.{done}
use Rattle.wire.specs.Numbers.{votes_at}
use Rattle.wire.specs.Put.{Written}
use Rattle.exports.specs.Reply.{Reply, reply, answered, numbered, sized, placed, answer_of, number_of, size_of, place_of, minus}
use Rattle.exports.specs.Calls.{network_of, next_after, next_bytes, walked, WalksAll, into}
use Rattle.voting.specs.declared.settings.Network.TheVariants.{Testnet}
use Rattle.legal.specs.declared.next.Votes.{Votes}
use Rattle.legal.specs.Legal.{number, next_legal_votes, asked, votes}
use Rattle.legal.proofs.Laws.Next.{lists-all}

-- a writer's answer
module _ (w : Result ℕ Refusal) {r : ℕ} {after : List ℕ} {o : Outcome} where
  answered-is : (f g : ℕ → ℕ) → r ≡ answer_of f g w → outcome w after ≡ o → reply r after ≡ answered f g o
  unfolding answered answer_of
  answered-is f g e q = rw (← q) (go w e)
    where
      go : (v : Result ℕ Refusal) → r ≡ answer_of f g v → reply r after ≡ answered f g (outcome v after)
      go (Ok n) p = rw p
      go (Err e) p = rw p

  pub numbered_is : r ≡ number_of w → outcome w after ≡ o → reply r after ≡ numbered o
  numbered_is = answered-is _ _

  pub sized-is : r ≡ size_of w → outcome w after ≡ o → reply r after ≡ sized o
  sized-is = answered-is _ _

  pub placed-is : r ≡ place_of w → outcome w after ≡ o → reply r after ≡ placed o
  placed-is = answered-is _ _

-- what is written of an answer: its bytes, or its refusal, told by its number
module _ {A : Type 0} (bytes : A → List ℕ) {x : Result A Refusal} (cells : List ℕ) where
  pub into-ok : {a : A} → Ok a ≡ x → writes (bytes a) cells ≡ into bytes x cells
  unfolding into
  into-ok q = rw (← q)

  into-err : {e : Refusal} → Err e ≡ x → refused e cells ≡ into bytes x cells
  unfolding into
  into-err q = rw (← q)

  pub tells : {e : Refusal} → Err e ≡ x → {r : ℕ} → r ≡ number_in e → reply r cells ≡ numbered (into bytes x cells)
  unfolding answered
  tells q p = rw p (ap numbered (into-err q))

  pub tells-sized : {e : Refusal} → Err e ≡ x → {n r : ℕ} → n ≡ number_in e → r ≡ minus n → reply r cells ≡ sized (into bytes x cells)
  unfolding answered
  tells-sized q p m = rw (m, p) (ap sized (into-err q))

-- an answer that is written, by another name
pub through-reply : {X : Type 0} (into : X → List ℕ → Reply) {x y : X} {o : Reply} (cells : List ℕ) → o ≡ into x cells → x ≡ y → o ≡ into y cells
through-reply into cells p e = p ∙ ap (λ x. into x cells) e

-- the next legal header: its bytes written, none where there is none, and the three bytes that it was asked with
pub next-sized : {v w : Option Votes} {o : Reply} (cells : List ℕ) → o ≡ sized (writes (next_bytes v) cells) → v ≡ w → o ≡ sized (writes (next_bytes w) cells)
next-sized = through-reply (λ v cells. sized (writes (next_bytes v) cells))

pub next-none : (cells : List ℕ) → reply 0 cells ≡ sized (writes (next_bytes None) cells)
unfolding answered next_bytes
next-none cells = ap sized (done [] cells 0 refl (omega arith) cells refl)

pub next-after : (votes v : List ℕ) → v ≡ votes_at votes 0 → next_legal_votes (get_or v 0 0) (get_or v 1 0) (get_or v 2 0) ≡ next_after votes
unfolding next_after
next-after votes v e = rw e

-- asked with what was written, as with the answer
walks : (k : ℕ) (v : Option Votes) → walked k (next_bytes v) ≡ asked next_legal_votes k v
unfolding walked next_bytes next_after big_endian asked
walks zero v = refl
walks (suc k) None = refl
walks (suc k) (Some v) =
    let a = v.0 in
    let b = v.1 in
    let c = v.2 in
    let e : a * 65536 + (b * 256 + (c * 1 + 0)) ≡ number a b c = omega arith in
    ap (λ (n : ℕ). n ∷ walked k (next_bytes (next_legal_votes a b c))) e ∙ ap (λ (l : List ℕ). number a b c ∷ l) (walks k (next_legal_votes a b c))

pub walks-all : WalksAll
unfolding next_bytes
walks-all k h = walks k (Some (votes 0 0 0)) ∙ lists-all k h

-- a refusal's number is not 0, and fits a byte
pub number-some : (e : Refusal) → number_in e ≡ 0 → ⊥
number-some BodyShort q = omega arith
number-some CountUnreadable q = omega arith
number-some FieldHeaderCut q = omega arith
number-some ValueLong q = omega arith
number-some ValueCut q = omega arith
number-some ParameterSize q = omega arith
number-some UpdateUnreadable q = omega arith
number-some MandatoryDisabled q = omega arith
number-some TooManyVotes q = omega arith
number-some RepeatedVote q = omega arith
number-some ContradictoryVote q = omega arith
number-some ForkVoteBarred q = omega arith
number-some UnknownParameter q = omega arith
number-some AbsentParameter q = omega arith
number-some EntryDiffers q = omega arith
number-some BlockVersionDiffers q = omega arith
number-some VotingLengthZero q = omega arith
number-some SettingLarge q = omega arith
number-some VotesCollectedAbsent q = omega arith
number-some BlockVersionAbsent q = omega arith
number-some OutputShort q = omega arith
number-some InputLong q = omega arith
number-some StatusRuleLow q = omega arith
number-some WrittenValueLong q = omega arith
number-some WindowLengthOutside q = omega arith
number-some RecordMalformed q = omega arith
number-some HeightUnexpected q = omega arith

pub number-small : (e : Refusal) → number_in e ≤ 255
number-small BodyShort = omega arith
number-small CountUnreadable = omega arith
number-small FieldHeaderCut = omega arith
number-small ValueLong = omega arith
number-small ValueCut = omega arith
number-small ParameterSize = omega arith
number-small UpdateUnreadable = omega arith
number-small MandatoryDisabled = omega arith
number-small TooManyVotes = omega arith
number-small RepeatedVote = omega arith
number-small ContradictoryVote = omega arith
number-small ForkVoteBarred = omega arith
number-small UnknownParameter = omega arith
number-small AbsentParameter = omega arith
number-small EntryDiffers = omega arith
number-small BlockVersionDiffers = omega arith
number-small VotingLengthZero = omega arith
number-small SettingLarge = omega arith
number-small VotesCollectedAbsent = omega arith
number-small BlockVersionAbsent = omega arith
number-small OutputShort = omega arith
number-small InputLong = omega arith
number-small StatusRuleLow = omega arith
number-small WrittenValueLong = omega arith
number-small WindowLengthOutside = omega arith
number-small RecordMalformed = omega arith
number-small HeightUnexpected = omega arith

-- where 0 is answered, a writer was not refused
pub was-written : (w : Result ℕ Refusal) (r : ℕ) → r ≡ 0 → r ≡ number_of w → Written w
unfolding answer_of
was-written (Ok n) r z e = refl
was-written (Err e) r z q = absurd (number-some e (sym q ∙ z))

-- minus a number that is not 0
pub minus-some : (e : ℕ) → (e ≡ 0 → ⊥) → e ≤ 255 → 0xffff_ffff_ffff_ffff - e + 1 ≡ minus e
unfolding minus bits_of modulo
minus-some zero d f = absurd (d refl)
minus-some (suc n) d f = let h : n < 2 ^ 64 = omega arith in rw (mod-eq_of_lt h) (omega arith)

pub testnet-other : (n : ℕ) → (n ≡ 0 → ⊥) → Testnet ≡ network_of n
testnet-other zero d = absurd (d refl)
testnet-other (suc n) d = refl
