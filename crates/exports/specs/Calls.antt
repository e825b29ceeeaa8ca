-- Calls over lent bytes, each by what its bytes stand for. docs/VECTORS.md, "Bytes", has the bytes.
-- Assumes nothing.
use Rattle.std.specs.Prelude.{Result, Ok, Err, ⊤, ◌⊎◌, ℕ, zero, suc, ◌≤◌, ◌≡◌, Bool, cond, get_or, Option, Some, None}
use mathlib.Core.List.{List, [], ◌∷◌, Permᴰ}
use Rattle.codec.specs.BigEndian.{big_endian}
use Rattle.codec.specs.declared.refusal.Refusal.{Refusal}
use Rattle.codec.specs.declared.refusal.Refusal.TheVariants.{RecordMalformed, EntryDiffers, UnknownParameter, AbsentParameter}
use Rattle.codec.specs.Refusal.{number}
use Rattle.archive.specs.declared.record.RecordPlace.{RecordPlace}
use Rattle.archive.specs.declared.record.Unread.{Unread}
use Rattle.archive.specs.declared.record.Unread.TheVariants.{Short, Malformed}
use Rattle.archive.specs.declared.replay.Replay.{Replay}
use Rattle.archive.specs.declared.replay.Rejection.{Rejection}
use Rattle.extension.specs.declared.parameters.Mismatch.{Mismatch}
use Rattle.codec.specs.Output.{Outcome, refused, writes}
use Rattle.voting.specs.declared.settings.Network.{Network}
use Rattle.voting.specs.declared.settings.Network.TheVariants.{Mainnet, Testnet}
use Rattle.voting.specs.declared.settings.VotingConfig.{VotingConfig}
use Rattle.voting.specs.declared.tally.Entry.{Entry}
use Rattle.voting.specs.Settings.{mainnet, testnet}
use Rattle.voting.specs.Order.{Consistent}
use Rattle.extension.specs.declared.boundary.Computed.{Computed}
use Rattle.extension.specs.Boundary.{computed_of}
use Rattle.lent.specs.declared.boundary.BoundaryAt.{BoundaryAt}
use Rattle.legal.specs.declared.next.Votes.{Votes}
use Rattle.legal.specs.Legal.{next_legal_votes, total, all_legal}
use Rattle.archive.specs.Replay.{rejection_number, rejection_id}
use Rattle.wire.specs.State.{state_bytes}
use Rattle.wire.specs.Places.{record_bytes}
use Rattle.wire.specs.Boundary.{question_of, computed_bytes}
use Rattle.exports.specs.Reply.{Reply, reply, minus, numbered, placed, with_id}

-- a network's number: 0 is mainnet, any other testnet
abbrev pub network_of : ℕ → Network
network_of zero = Mainnet
network_of (suc n) = Testnet

abbrev pub settings_of : Network → VotingConfig
settings_of Mainnet = mainnet
settings_of Testnet = testnet

-- true is answered by 1
abbrev pub flag : Bool → ℕ
flag b = cond b 1 0

-- the number and the id of a mismatch, each 0 for none; and both in one
unfoldable pub matched_number : Result ⊤ Mismatch → ℕ
matched_number (Ok x) = 0
matched_number (Err e) = number EntryDiffers

unfoldable pub matched_id : Result ⊤ Mismatch → ℕ
matched_id (Ok x) = 0
matched_id (Err e) = e.id

unfoldable pub matched_code : Result ⊤ Mismatch → ℕ
matched_code m = with_id (matched_number m) (matched_id m)

-- the same of a record that is replayed
unfoldable pub replayed_number : Result Replay Rejection → ℕ
replayed_number (Ok s) = 0
replayed_number (Err e) = rejection_number e

unfoldable pub replayed_id : Result Replay Rejection → ℕ
replayed_id (Ok s) = 0
replayed_id (Err e) = rejection_id e

-- the next legal header after three vote bytes, and its bytes: none where there is none
unfoldable pub next_after : List ℕ → Option Votes
next_after votes = next_legal_votes (get_or votes 0 0) (get_or votes 1 0) (get_or votes 2 0)

unfoldable pub next_bytes : Option Votes → List ℕ
next_bytes (Some v) = v.0 ∷ v.1 ∷ v.2 ∷ []
next_bytes None = []

-- the numbers of at most k headers, the first of them given, each asked for with the bytes that the call before wrote
unfoldable pub walked : ℕ → List ℕ → List ℕ
walked zero votes = []
walked (suc k) [] = []
walked (suc k) (b ∷ bs) = big_endian (b ∷ bs) ∷ walked k (next_bytes (next_after (b ∷ bs)))

-- from three bytes 0 on, in as many calls as there are numbers or more, every legal number comes, once and in order, and nothing else
abbrev pub WalksAll : Type 0
WalksAll = (k : ℕ) → total ≤ k → walked k (0 ∷ 0 ∷ 0 ∷ []) ≡ all_legal

-- what is written of an answer, where it is not refused
unfoldable pub into : {A : Type 0} → (A → List ℕ) → Result A Refusal → List ℕ → Outcome
into bytes (Ok x) cells = writes (bytes x) cells
into bytes (Err e) cells = refused e cells

-- the next state is written where the record is not turned down
unfoldable pub replayed_into : Result Replay Rejection → List ℕ → Reply
replayed_into (Ok s) cells = numbered (writes (state_bytes s) cells)
replayed_into (Err e) cells = reply (with_id (rejection_number e) (rejection_id e)) cells

-- a record that is whole: 0, and its place is written; so many bytes at least are missing; minus 25
unfoldable pub record_reply : Result RecordPlace Unread → List ℕ → Reply
record_reply (Ok p) cells = placed (writes (record_bytes p) cells)
record_reply (Err (Short n)) cells = reply n cells
record_reply (Err Malformed) cells = reply (minus (number RecordMalformed)) cells

-- the boundary over a tally, an update and a question
unfoldable pub computed_by : BoundaryAt → List Entry → List ℕ → Result Computed Refusal
computed_by q tally update = computed_of q.config q.height q.table tally q.vote update

unfoldable pub boundary_of : List Entry → List ℕ → List ℕ → Result Computed Refusal
boundary_of tally update question = computed_by (question_of question) tally update

-- 13 or 14
abbrev pub NoParameter : ℕ → Type 0
NoParameter n = (n ≡ number UnknownParameter) ⊎ (n ≡ number AbsentParameter)

-- the same cells; and the same number, or each is 13 or 14
abbrev pub SameReply : Reply → Reply → Type 0
SameReply (reply n xs) (reply m ys) = ((n ≡ m) ⊎ (NoParameter n × NoParameter m)) × (xs ≡ ys)

-- the reply to a tally in which no entry repeats or contradicts another, beside the reply to every rearrangement of it
abbrev pub RepliesInAnyOrder : List Entry → List ℕ → List ℕ → List ℕ → Reply → Type 0
RepliesInAnyOrder tally update question cells x =
    Consistent tally → (other : List Entry) → Permᴰ tally other → SameReply x (numbered (into computed_bytes (boundary_of other update question) cells))
