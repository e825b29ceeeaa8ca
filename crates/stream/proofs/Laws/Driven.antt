-- A run as it begins, and every way of handing an input to the calls. Assumes nothing.
use Rattle.std.proofs.Common.{Result, Ok, ◌≡◌, ℕ, zero, suc, ◌+◌, ◌≤◌, List, [], ◌∷◌, ◌++◌, length, drop, sym, refl, ap, ◌∙◌, subst, arith, length-drop}
use Rattle.voting.specs.declared.settings.Network.TheVariants.{Mainnet}
use Rattle.voting.specs.declared.table.Table.{Table}
use Rattle.voting.specs.Settings.{voting_length, mainnet}
use Rattle.voting.specs.Table.{default_parameters}
use Rattle.archive.specs.declared.replay.Replay.{Replay}
use Rattle.codec.specs.declared.refusal.Refusal.{Refusal}
use Rattle.archive.specs.Replay.{may_open, open_of}
use Rattle.stream.specs.declared.run.Run.{Run}
use Rattle.stream.specs.Lines.{head_line, line_most}
use Rattle.stream.specs.Stream.{printed, joined, of-short}
use Rattle.stream.specs.Run.{prints, begun, ahead, longest_record, Ready, feed_of, finish_of}
use Rattle.stream.specs.Driven.{mainnet_start, replay_prints, Driven, finished, next, fed, Drivable, drivable, Begins}
use Rattle.stream.proofs.Laws.Reading.{lawful}
use Rattle.stream.proofs.Laws.Feed.{feeds, finishes}

-- what every way writes
drives : {r : Run} {cells : List ℕ} {pieces : List (List ℕ)} {text : List ℕ} → Ready r cells → Driven r cells pieces text → ahead r cells (joined pieces) ≡ text
unfolding joined
drives {r} {cells} y (finished room h) = (finishes r cells room y h).all
drives y (next d) = drives y d
drives {r} {cells} y (fed {piece = piece} {pieces = pieces} room h d) =
    let p = feeds room r cells piece y h in
    p.goes_on (joined pieces) ∙ ap (λ (x : List ℕ). (feed_of r cells piece room).text ++ x) (drives p.ready d)

-- a call takes a byte at least, so that a way ends
abbrev weigh : List (List ℕ) → ℕ
weigh [] = 0
weigh (piece ∷ pieces) = suc (length piece) + weigh pieces

by_next : {r : Run} {cells : List ℕ} {pieces : List (List ℕ)} → Drivable r cells pieces → Drivable r cells ([] ∷ pieces)
by_next (drivable text d) = drivable text (next d)

by_call : (r : Run) (cells piece : List ℕ) (pieces : List (List ℕ)) (room : ℕ) → line_most ≤ room
    → Drivable (feed_of r cells piece room).run (feed_of r cells piece room).cells (drop (feed_of r cells piece room).used piece ∷ pieces) → Drivable r cells (piece ∷ pieces)
by_call r cells piece pieces room h (drivable text d) = drivable ((feed_of r cells piece room).text ++ text) (fed room h d)

can-drive : (k : ℕ) (r : Run) (cells : List ℕ) (pieces : List (List ℕ)) → Ready r cells → weigh pieces ≤ k → Drivable r cells pieces
can-drive k r cells [] y h = drivable (finish_of r cells line_most).text (finished line_most (omega arith))
can-drive zero r cells (piece ∷ pieces) y h = absurd (omega arith)
can-drive (suc k) r cells ([] ∷ pieces) y h = by_next (can-drive k r cells pieces y (omega arith))
can-drive (suc k) r cells ((b ∷ piece) ∷ pieces) y h =
    let p = feeds line_most r cells (b ∷ piece) y (omega arith) in
    let a = feed_of r cells (b ∷ piece) line_most in
    let m = p.moves (omega arith) (omega arith) in
    let d = length-drop a.used (b ∷ piece) in
    by_call r cells (b ∷ piece) pieces line_most (omega arith) (can-drive k a.run a.cells (drop a.used (b ∷ piece) ∷ pieces) p.ready (omega (arith, h, m, d)))

-- a run as it begins
module _ (s : Replay) (some : 1 ≤ voting_length s.settings) where
  begun-ready : (cells : List ℕ) → longest_record s.settings ≤ length cells → Ready (begun s) cells
  begun-ready cells h = record { some = some; low = omega arith; room = h; inside = omega arith; waits = λ o. of-short 3 (lawful s.settings).none }

  opens : (cells input : List ℕ) → prints s input ≡ head_line ++ ahead (begun s) cells input
  unfolding prints printed ahead
  opens cells input = refl

  pub begins : Begins (prints s) (longest_record s.settings) (begun s)
  begins =
      record {
        ready = begun-ready;
        opens = opens;
        all-drivable = λ cells h pieces. can-drive (weigh pieces) (begun s) cells pieces (begun-ready cells h) (omega arith);
        all-printed = λ cells h pieces text d. ap (λ (x : List ℕ). head_line ++ x) (sym (drives (begun-ready cells h) d)) ∙ sym (opens cells (joined pieces));
      }

-- the opening of program `replay`
opens-so : open_of (voting_length mainnet) (default_parameters Mainnet) ≡ Ok mainnet_start
unfolding open_of may_open mainnet mainnet_start
opens-so = refl

mainnet-some : 1 ≤ voting_length mainnet
unfolding mainnet
mainnet-some = omega arith

start-begins : Begins replay_prints (longest_record mainnet) (begun mainnet_start)
unfolding replay_prints mainnet_start
start-begins = begins mainnet_start mainnet-some

module _ (t : Table) (is-t : t ≡ default_parameters Mainnet) (h : ℕ) (is-h : h ≡ voting_length mainnet) (o : Result Replay Refusal) (is-o : o ≡ open_of h t) where
  pub mainnet-opens : o ≡ Ok mainnet_start
  mainnet-opens = is-o ∙ ap (open_of h) is-t ∙ ap (λ (x : ℕ). open_of x (default_parameters Mainnet)) is-h ∙ opens-so

  pub begins-mainnet : (s : Replay) → o ≡ Ok s → (r : Run) → r ≡ begun s → (r ≡ begun mainnet_start) × Begins replay_prints (longest_record mainnet) r
  begins-mainnet s e r c =
      let same : s ≡ mainnet_start = ok-is (sym e ∙ mainnet-opens) in
      let q : r ≡ begun mainnet_start = c ∙ ap begun same in
      (q, subst (Begins replay_prints (longest_record mainnet)) (sym q) start-begins)
    where
      ok-is : {s t : Replay} → ◌≡◌ {A = Result Replay Refusal} (Ok s) (Ok t) → s ≡ t
      ok-is p = cc

pub length-is : 1024 ≡ voting_length mainnet
unfolding mainnet
length-is = refl
