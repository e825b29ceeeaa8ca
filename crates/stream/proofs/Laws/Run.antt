-- One record of a piece, by the ways through the code; and what it means for the input.
-- Assumes nothing.
use Rattle.std.proofs.Common.{Result, Ok, Err, ◌≡◌, ℕ, zero, suc, ◌+◌, ◌-◌, ◌*◌, ◌%◌, ◌<◌, ◌≤◌, Bool, true, false, cond, List, [], ◌∷◌, ◌++◌, length, take, drop, sym, refl, ap, ◌∙◌, subst, true≢false, append-nil, add-one, arith, length-append, length-drop, length-take-le, take_all, take_at, le-leb}
use lib.Seq.{sets, sets-eq}
use Rattle.codec.specs.declared.refusal.Refusal.TheVariants.{RecordMalformed}
use Rattle.codec.specs.Refusal.{number}
use Rattle.codec.specs.Output.{Outcome, wrote, writes}
use Rattle.voting.specs.declared.settings.VotingConfig.{VotingConfig}
use Rattle.voting.specs.Settings.{voting_length}
use Rattle.archive.specs.declared.record.RecordPlace.{RecordPlace}
use Rattle.archive.specs.declared.record.Unread.{Unread}
use Rattle.archive.specs.declared.record.Unread.TheVariants.{Short, Malformed}
use Rattle.archive.specs.declared.replay.Replay.{Replay}
use Rattle.archive.specs.declared.replay.Rejection.{Rejection}
use Rattle.archive.specs.Record.{record_at}
use Rattle.archive.specs.Replay.{votes_size, replay_of, rejection_number}
use Rattle.archive.specs.Rounds.{record_height}
use Rattle.archive.proofs.Laws.RecordTrip.{short-room, whole-exact}
use Rattle.archive.proofs.Laws.Rounds.{settings-kept, accepted-at}
use Rattle.stream.specs.declared.run.Run.{Run}
use Rattle.stream.specs.declared.run.Took.{Took}
use Rattle.stream.specs.declared.run.EpochPrint.{EpochPrint}
use Rattle.stream.specs.declared.run.EndPrint.{EndPrint}
use Rattle.stream.specs.declared.run.Print.{Print}
use Rattle.stream.specs.declared.run.Print.TheVariants.{Nothing, Epoch, End}
use Rattle.stream.specs.Lines.{epoch_line, end_line, line_most}
use Rattle.stream.specs.Stream.{At, whole, unless, short, malformed, goes, stops, printed_after, missing, Held, of-short, of-unless}
use Rattle.stream.specs.Run.{end_of, end_at, step_by, step_of, held, ahead, longest_record, Ready, text_of, taken, waits_with, ended, ends_by, after_replay, after_bytes, on_bytes, took_of, took_cells}
use Rattle.stream.proofs.Laws.Lines.{epoch-most, end-most}
use Rattle.stream.proofs.Laws.Stream.{taken-most, looked-some, looked-most, goes-waiting, goes-malformed, goes-accepted, goes-refused}
use Rattle.stream.proofs.Laws.Reading.{lawful, says, at-whole, at-short, at-malformed}

pub cond_yes : {A : Type 0} (b : Bool) (x y : A) → b ≡ true → x ≡ cond b x y
cond_yes true x y e = refl
cond_yes false x y e = absurd (true≢false (sym e))

pub cond_no : {A : Type 0} (b : Bool) (x y : A) → b ≡ false → y ≡ cond b x y
cond_no false x y e = refl
cond_no true x y e = absurd (true≢false e)

-- how many bytes are taken: the smaller number
pub took : (k : ℕ) (l : List ℕ) → k ≤ length l → k ≡ length (take k l)
took k l h = sym (length-take-le k l h)

-- ---- what a run prints from here on

pub ahead-over : (r : Run) (cells input : List ℕ) → r.over ≡ true → ahead r cells input ≡ []
unfolding ahead
ahead-over r cells input e = sym (cond_yes r.over _ _ e)

pub ahead-on : (r : Run) (cells input : List ℕ) → r.over ≡ false
    → ahead r cells input ≡ printed_after (end_at r.replay.settings) step_of r.replay r.accepted (held r cells ++ input)
unfolding ahead
ahead-on r cells input e = sym (cond_no r.over _ _ e)

-- ---- the ways through the code

abbrev pub sized : Run → ℕ
sized r = votes_size r.replay.settings

pub ends_with : (r r' : Run) (p : Print) (used n : ℕ) → r' ≡ ended r → p ≡ End (record { accepted = r.accepted; refusal = n }) → record { run = r'; used = used; print = p } ≡ ends_by r used n
ends_with r r' p used n e f =
    ap (λ (x : Run). record { run = x; used = used; print = p }) e ∙ ap (λ (x : Print). record { run = ended r; used = used; print = x }) f

-- at least how many bytes are missing
module _ (g : VotingConfig) (bytes : List ℕ) (x : Result RecordPlace Unread) (q : x ≡ record_at bytes (votes_size g)) where
  missing_at : (y : Result RecordPlace Unread) → x ≡ y → missing (end_of y) ≡ missing (end_at g bytes)
  unfolding end_at
  missing_at y e = ap (λ (z : Result RecordPlace Unread). missing (end_of z)) (sym e ∙ q)

  pub missing-whole : (p : RecordPlace) → x ≡ Ok p → 0 ≡ missing (end_at g bytes)
  unfolding missing end_of
  missing-whole p e = missing_at (Ok p) e

  pub missing-short : (k : ℕ) → x ≡ Err (Short k) → k ≡ missing (end_at g bytes)
  unfolding missing end_of
  missing-short k e = missing_at (Err (Short k)) e

  pub missing-none : x ≡ Err Malformed → 0 ≡ missing (end_at g bytes)
  unfolding missing end_of
  missing-none e = missing_at (Err Malformed) e

module _ (r : Run) (bytes : List ℕ) (x : Result RecordPlace Unread) (q : x ≡ record_at bytes (sized r)) where
  module _ (used : ℕ) where
    pub bytes_whole : (p : RecordPlace) → x ≡ Ok p → (y : Result Replay Rejection) → y ≡ replay_of r.replay bytes → after_replay r p.height used y ≡ on_bytes r bytes used
    unfolding after_bytes
    bytes_whole p e y z = ap (after_replay r p.height used) z ∙ ap (after_bytes r bytes used) (sym e ∙ q)

    pub bytes-short : (k : ℕ) → x ≡ Err (Short k) → waits_with r (length bytes) used ≡ on_bytes r bytes used
    unfolding after_bytes
    bytes-short k e = ap (after_bytes r bytes used) (sym e ∙ q)

    pub bytes-malformed : x ≡ Err Malformed → ends_by r used (number RecordMalformed) ≡ on_bytes r bytes used
    unfolding after_bytes
    bytes-malformed e = ap (after_bytes r bytes used) (sym e ∙ q)

-- the bytes that are taken find room in a buffer that holds the longest record
room-enough : (r : Run) (cells piece : List ℕ) → r.filled ≤ length cells → longest_record r.replay.settings ≤ length cells → r.filled + length (taken r cells piece) ≤ length cells
unfolding missing
room-enough r cells piece h m = go (end_at r.replay.settings (held r cells)) refl
  where
    go : (x : At) → x ≡ end_at r.replay.settings (held r cells) → r.filled + length (take (missing x) piece) ≤ length cells
    go (whole e) q = omega (arith, h)
    go (unless e) q = absurd (says r.replay.settings (held r cells) (unless e) q)
    go (short k) q =
        let f = took r.filled cells h in
        omega (arith, f, m, (taken-most k piece).0, (short-room (held r cells) (sized r) k (says r.replay.settings (held r cells) (short k) q)).1)
    go malformed q = omega (arith, h)

module _ (r : Run) (cells piece : List ℕ) where
  abbrev new : List ℕ
  new = taken r cells piece

  abbrev bytes : List ℕ
  bytes = held r cells ++ new

  pub over-took : r.over ≡ true → (f : Took) → f ≡ record { run = r; used = length piece; print = Nothing } → (f ≡ took_of r cells piece) × (cells ≡ took_cells r cells piece)
  unfolding took_of took_cells
  over-took e f q = (q ∙ cond_yes r.over _ _ e, cond_yes r.over _ _ e)

  module _ (on : r.over ≡ false) where
    pub took-on : took_of r cells piece ≡ on_bytes r bytes (length new)
    unfolding took_of
    took-on = sym (cond_no r.over _ _ on)

    pub cells-on : took_cells r cells piece ≡ held r cells ++ new ++ drop (r.filled + length new) cells
    unfolding took_cells
    cells-on = sym (cond_no r.over _ _ on)

  module _ (h : r.filled ≤ length cells) (m : longest_record r.replay.settings ≤ length cells) where
    pub new-fits : r.filled + length new ≤ length cells
    new-fits = room-enough r cells piece h m

    -- the bytes so far, with those that were taken, stand at the start of the buffer
    stand : (after : List ℕ) → after ≡ held r cells ++ new ++ drop (r.filled + length new) cells → take (r.filled + length new) after ≡ bytes
    stand after q =
        let t = took r.filled cells h in
        ap (take (r.filled + length new)) q ∙ take_at bytes (drop (r.filled + length new) cells) (r.filled + length new) (omega (arith, t, length-append (held r cells) new))

    bytes-long : length bytes ≡ r.filled + length new
    bytes-long = let t = took r.filled cells h in omega (arith, t, length-append (held r cells) new)

    -- the code's number of bytes that are taken
    module _ (used : ℕ) (used-is : used ≡ length new) where
      pub used-inside : used ≤ length piece
      used-inside = omega (arith, used-is, (taken-most (missing (end_at r.replay.settings (held r cells))) piece).1)

      pub used-fits : r.filled + used ≤ length cells
      used-fits = omega (arith, used-is, new-fits)

      pub room-took : r.over ≡ false → (after : List ℕ) → after ≡ sets cells r.filled (take used piece)
          → (f : Took) → f ≡ on_bytes r (take (r.filled + used) after) used → (f ≡ took_of r cells piece) × (after ≡ took_cells r cells piece)
      room-took on after q f e =
          let k = missing (end_at r.replay.settings (held r cells)) in
          let same : take used piece ≡ new = ap (λ (n : ℕ). take n piece) used-is ∙ sym (taken-self k piece) in
          let is : after ≡ held r cells ++ new ++ drop (r.filled + length new) cells = q ∙ ap (sets cells r.filled) same ∙ sets-eq new cells r.filled new-fits in (
            e
                ∙ ap (λ (n : ℕ). on_bytes r (take (r.filled + n) after) used) used-is
                ∙ ap (λ (x : List ℕ). on_bytes r x used) (stand after is)
                ∙ ap (on_bytes r bytes) used-is
                ∙ sym (took-on on),
            is ∙ sym (cells-on on),
          )
        where
          taken-self : (k : ℕ) (l : List ℕ) → take k l ≡ take (length (take k l)) l
          taken-self zero l = refl
          taken-self (suc k) [] = refl
          taken-self (suc k) (x ∷ l) = ap (λ (t : List ℕ). x ∷ t) (taken-self k l)

-- whatever the run and its buffer are: no more bytes are taken than there are, the settings stay, and the bytes so far have room
pub record Keeps (r : Run) (used : ℕ) (f : Took) : Type 0 where
  pub takes : f.used ≡ used
  pub holds : f.run.filled ≤ r.filled + used
  pub settings-stay : f.run.replay.settings ≡ r.replay.settings

replay-keeps : (r : Run) (height used : ℕ) (x : Result Replay Rejection) → ((t : Replay) → x ≡ Ok t → t.settings ≡ r.replay.settings) → Keeps r used (after_replay r height used x)
unfolding after_replay
replay-keeps r height used (Ok t) k = record { takes = refl; holds = omega arith; settings-stay = k t refl }
replay-keeps r height used (Err e) k = record { takes = refl; holds = omega arith; settings-stay = refl }

bytes-keep : (r : Run) (xs : List ℕ) (used : ℕ) → length xs ≡ r.filled + used → (x : Result RecordPlace Unread) → Keeps r used (after_bytes r xs used x)
unfolding after_bytes
bytes-keep r xs used l (Ok p) = replay-keeps r p.height used (replay_of r.replay xs) (settings-kept r.replay xs)
bytes-keep r xs used l (Err (Short k)) = record { takes = refl; holds = omega (arith, l); settings-stay = refl }
bytes-keep r xs used l (Err Malformed) = record { takes = refl; holds = omega arith; settings-stay = refl }

pub record Holds (r : Run) (cells piece : List ℕ) (f : Took) : Type 0 where
  pub inside : f.used ≤ length piece
  pub filled : f.run.filled ≤ length cells
  pub settings-stay : f.run.replay.settings ≡ r.replay.settings

pub took-holds : (r : Run) (cells piece : List ℕ) → r.filled ≤ length cells → longest_record r.replay.settings ≤ length cells → Holds r cells piece (took_of r cells piece)
took-holds r cells piece h m = by r.over refl
  where
    by : (b : Bool) → r.over ≡ b → Holds r cells piece (took_of r cells piece)
    by true e = subst (Holds r cells piece) (over-took r cells piece e _ refl).0 (record { inside = omega arith; filled = h; settings-stay = refl })
    by false e =
        let n = length (taken r cells piece) in
        let k = bytes-keep r (bytes r cells piece) n (bytes-long r cells piece h m) (record_at (bytes r cells piece) (sized r)) in
        let f = new-fits r cells piece h m in
        subst (Holds r cells piece) (sym (took-on r cells piece e)) (record {
          inside = omega (arith, k.takes, (taken-most (missing (end_at r.replay.settings (held r cells))) piece).1);
          filled = omega (arith, k.holds, f);
          settings-stay = k.settings-stay;
        })

-- ---- lines

pub text-most : (p : Print) → length (text_of p) ≤ line_most
unfolding text_of
text-most Nothing = omega arith
text-most (Epoch e) = epoch-most e.height e.fork
text-most (End e) = end-most e.accepted e.refusal

module _ (p : Print) (cells : List ℕ) where
  pub nothing_written : p ≡ Nothing → (wrote 0 cells ≡ writes (text_of p) cells) × (length (text_of p) ≤ line_most)
  unfolding text_of writes
  nothing_written e = (rw e (rw (le-leb 0 (length cells) (omega arith))), text-most p)

  pub epoch-written : (e : EpochPrint) → p ≡ Epoch e → (o : Outcome) → o ≡ writes (epoch_line e.height e.fork) cells → (o ≡ writes (text_of p) cells) × (length (text_of p) ≤ line_most)
  unfolding text_of
  epoch-written e q o w = (w ∙ ap (λ (x : Print). writes (text_of x) cells) (sym q), text-most p)

  pub end-written : (e : EndPrint) → p ≡ End e → (o : Outcome) → o ≡ writes (end_line e.accepted e.refusal) cells → (o ≡ writes (text_of p) cells) × (length (text_of p) ≤ line_most)
  unfolding text_of
  end-written e q o w = (w ∙ ap (λ (x : Print). writes (text_of x) cells) (sym q), text-most p)

-- ---- what it means for the input

-- a record of a piece was taken: bytes were, what is to be printed stays the same, and the run is ready again
pub record Goes (r : Run) (cells piece : List ℕ) (f : Took) (after : List ℕ) : Type 0 where
  pub inside : f.used ≤ length piece
  pub moves : 0 < f.used
  pub goes_on : (more : List ℕ) → ahead r cells (piece ++ more) ≡ text_of f.print ++ ahead f.run after (drop f.used piece ++ more)
  pub ready : Ready f.run after

-- readiness with the same settings
ready_with : (r r' : Run) (cells after : List ℕ) → Ready r cells → r'.replay.settings ≡ r.replay.settings → r'.accepted * voting_length r.replay.settings ≤ r'.replay.next
    → length after ≡ length cells → r'.filled ≤ length after → (r'.over ≡ false → Held (end_at r.replay.settings) (held r' after)) → Ready r' after
ready_with r r' cells after y e low long inside waits =
    record {
      some = subst (λ (g : VotingConfig). 1 ≤ voting_length g) (sym e) y.some;
      low = subst (λ (g : VotingConfig). r'.accepted * voting_length g ≤ r'.replay.next) (sym e) low;
      room = subst (λ (g : VotingConfig). longest_record g ≤ length after) (sym e) (omega (arith, y.room, long));
      inside = inside;
      waits = λ o. subst (λ (g : VotingConfig). Held (end_at g) (held r' after)) (sym e) (waits o);
    }

low-times : (n l : ℕ) → 1 ≤ l → n ≤ n * l
low-times zero l h = omega arith
low-times (suc n) l h = let r = low-times n l h in omega (arith, r)

add_times : (n l : ℕ) → (n + 1) * l ≡ n * l + l
add_times n l = rw (add-one n) (omega arith)

module _ (r : Run) (cells piece : List ℕ) (y : Ready r cells) (some : 0 < length piece) where
  abbrev s : Replay
  s = r.replay

  abbrev g : VotingConfig
  g = s.settings

  abbrev old : List ℕ
  old = held r cells

  abbrev now : List ℕ
  now = taken r cells piece

  abbrev all : List ℕ
  all = old ++ now

  abbrev after : List ℕ
  after = old ++ now ++ drop (r.filled + length now) cells

  over-goes : r.over ≡ true → Goes r cells piece (record { run = r; used = length piece; print = Nothing }) cells
  unfolding text_of
  over-goes e =
      record {
        inside = omega arith;
        moves = some;
        goes_on = λ more. ahead-over r cells (piece ++ more) e ∙ sym (ahead-over r cells (drop (length piece) piece ++ more) e);
        ready = y;
      }

  module _ (on : r.over ≡ false) where
    w : Held (end_at g) old
    w = y.waits on

    now-some : 0 < length now
    now-some = looked-some (end_at g) (lawful g) step_of s r.accepted old piece [] w some

    now-most : length now ≤ length piece
    now-most = looked-most (end_at g) (lawful g) step_of s r.accepted old piece [] w some

    all-long : length all ≡ length old + length now
    all-long = length-append old now

    same-room : length after ≡ length cells
    same-room =
        let d = drop (r.filled + length now) cells in
        let h = new-fits r cells piece y.inside y.room in
        omega (arith, h, took r.filled cells y.inside, all-long, length-append all d, length-drop (r.filled + length now) cells)

    stands : take (length all) after ≡ all
    stands = take_at all (drop (r.filled + length now) cells) (length all) refl

    fits : length all ≤ length after
    fits = omega (arith, same-room, bytes-long r cells piece y.inside y.room, new-fits r cells piece y.inside y.room)

    -- the reading ends
    ends-goes : (n : ℕ) → ((more : List ℕ) → ahead r cells (piece ++ more) ≡ end_line r.accepted n) → Goes r cells piece (ends_by r (length now) n) after
    unfolding text_of ahead
    ends-goes n e =
        record {
          inside = now-most;
          moves = now-some;
          goes_on = λ more. e more ∙ sym (append-nil (end_line r.accepted n));
          ready = ready_with r (ended r) cells after y refl y.low same-room (omega arith) (λ o. absurd (true≢false o));
        }

    malformed-goes : Err Malformed ≡ record_at all (sized r) → Goes r cells piece (ends_by r (length now) (number RecordMalformed)) after
    malformed-goes q =
        ends-goes (number RecordMalformed) (λ more. ahead-on r cells (piece ++ more) on ∙ goes-malformed (end_at g) (lawful g) step_of s r.accepted old piece more w some (at-malformed g all q))

    short-goes : (k : ℕ) → Err (Short k) ≡ record_at all (sized r) → Goes r cells piece (waits_with r (length all) (length now)) after
    unfolding text_of ahead
    short-goes k q =
        record {
          inside = now-most;
          moves = now-some;
          goes_on = λ more.
              ahead-on r cells (piece ++ more) on
              ∙ goes-waiting (end_at g) (lawful g) step_of s r.accepted old piece more w some
              ∙ ap (λ (x : List ℕ). printed_after (end_at g) step_of s r.accepted (x ++ (drop (length now) piece ++ more))) (sym stands);
          ready = ready_with r (waits_with r (length all) (length now)).run cells after y refl y.low same-room fits (λ o. subst (Held (end_at g)) (sym stands) (of-short k (at-short g all k q)));
        }

    -- a whole record ends with the bytes that were taken
    module _ (p : RecordPlace) (q : Ok p ≡ record_at all (sized r)) where
      ends_there : Held (end_at g) old → p.end ≡ length all
      unfolding missing
      ends_there (of-short k e) =
          let m = (taken-most k piece).0 in
          let i : length now ≤ k = subst (λ (x : At). length (take (missing x) piece) ≤ k) e m in
          whole-exact old now (sized r) k (says g old (short k) e) i p q
      ends_there (of-unless e f) = absurd (says g old (unless e) f)

      end_is : p.end ≡ length all
      end_is = ends_there w

      behind-old : p.end - length old ≡ length now
      behind-old = omega (arith, end_is, all-long)

      step_is : step_of s (take p.end all) ≡ step_by p.height (replay_of s all)
      unfolding step_of record_height
      step_is = ap (step_of s) (take_all p.end all (omega (arith, end_is))) ∙ ap (λ (x : Result RecordPlace Unread). step_by (record_height x) (replay_of s all)) (sym q)

      beyond : length old ≤ p.end
      beyond = omega (arith, end_is, all-long)

      stops-goes : (n : ℕ) → step_of s (take p.end all) ≡ stops n → Goes r cells piece (ends_by r (length now) n) after
      stops-goes n e =
          ends-goes n (λ more. ahead-on r cells (piece ++ more) on ∙ goes-refused (end_at g) (lawful g) step_of s r.accepted old piece more w some p.end (at-whole g all p q) beyond n e)

      accepted-goes : (t : Replay) → replay_of s all ≡ Ok t → step_of s (take p.end all) ≡ goes t (epoch_line p.height t.table.fork)
          → Goes r cells piece (after_replay r p.height (length now) (Ok t)) after
      unfolding text_of ahead after_replay
      accepted-goes t v e =
          let a = accepted-at s all t v in
          let k = settings-kept s all t v in
          let l = voting_length g in
          let x = low-times r.accepted l y.some in
          let low = y.low in
          let fit : (r.accepted + 1) % 4294967296 ≡ r.accepted + 1 = omega (arith, a.0, x, low, y.some) in
          let f = after_replay r p.height (length now) (Ok t) in
          let line = epoch_line p.height t.table.fork in
          let grown : (r.accepted + 1) * l ≤ t.next = (let m = add_times r.accepted l in omega (arith, a.1, m, low)) in
          record {
            inside = now-most;
            moves = now-some;
            goes_on = λ more.
                ahead-on r cells (piece ++ more) on
                ∙ goes-accepted (end_at g) (lawful g) step_of s r.accepted old piece more w some p.end (at-whole g all p q) beyond t line e
                ∙ ap (λ (i : ℕ). line ++ printed_after (end_at g) step_of t (r.accepted + 1) (drop i piece ++ more)) behind-old
                ∙ ap (λ (c : VotingConfig). line ++ printed_after (end_at c) step_of t (r.accepted + 1) (drop (length now) piece ++ more)) (sym k)
                ∙ ap (λ (n : ℕ). line ++ printed_after (end_at t.settings) step_of t n (drop (length now) piece ++ more)) (sym fit);
            ready = ready_with r f.run cells after y k (subst (λ (n : ℕ). n * l ≤ t.next) (sym fit) grown) same-room (omega arith) (λ o. of-short 3 (lawful g).none);
          }

      whole-goes : (x : Result Replay Rejection) → replay_of s all ≡ x → Goes r cells piece (after_replay r p.height (length now) x) after
      unfolding step_by after_replay
      whole-goes (Ok t) e = accepted-goes t e (step_is ∙ ap (step_by p.height) e)
      whole-goes (Err n) e = stops-goes (rejection_number n) (step_is ∙ ap (step_by p.height) e)

    bytes-go : (x : Result RecordPlace Unread) → x ≡ record_at all (sized r) → Goes r cells piece (after_bytes r all (length now) x) after
    unfolding after_bytes
    bytes-go (Ok p) q = whole-goes p q (replay_of s all) refl
    bytes-go (Err (Short k)) q = short-goes k q
    bytes-go (Err Malformed) q = malformed-goes q

    on-goes : Goes r cells piece (took_of r cells piece) (took_cells r cells piece)
    on-goes =
        subst (λ (f : Took). Goes r cells piece f (took_cells r cells piece)) (sym (took-on r cells piece on))
        (subst (Goes r cells piece (on_bytes r all (length now))) (sym (cells-on r cells piece on)) (bytes-go (record_at all (sized r)) refl))

  pub record-goes : Goes r cells piece (took_of r cells piece) (took_cells r cells piece)
  record-goes = by r.over refl
    where
      by : (b : Bool) → r.over ≡ b → Goes r cells piece (took_of r cells piece) (took_cells r cells piece)
      by true e =
          let o = over-took r cells piece e _ refl in
          subst (λ (f : Took). Goes r cells piece f (took_cells r cells piece)) o.0 (subst (Goes r cells piece (record { run = r; used = length piece; print = Nothing })) o.1 (over-goes e))
      by false e = on-goes e
