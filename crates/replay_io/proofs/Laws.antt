-- The replay between two descriptors, by the ways through its code: every line is handed over.
-- Assumes nothing.
use Rattle.std.proofs.Common.{◌≡◌, refl, sym, ap, subst, ◌∙◌, Bool, true, false, cond, ◌||◌, true≢false, List, [], ◌++◌, append_assoc, append-nil, ℕ, zero, suc, ◌+◌, ◌-◌, ◌≤◌, ◌<◌, min, arith, ltb, eqb, length, take, drop, length-append, length-drop, drop_of_length-le, Option, None, Some, IfSome, Result, Ok, Err}
use borrow.Author.Tests.{ltb-false, ne_eqb}
use lib.Seq.{take_all, drop-drop, length-take-le}
use Rattle.std.specs.Io.KnownBytes.{Appends, Consumes, IsAtEnd}
use Rattle.std.specs.Result.{IsOk}
use Rattle.codec.specs.declared.refusal.Refusal.{Refusal}
use Rattle.codec.specs.declared.refusal.Refusal.TheVariants.{OutputShort, RecordMalformed}
use Rattle.codec.specs.Refusal.{number}
use Rattle.codec.specs.Check.{Check, passed, and_then}
use Rattle.codec.specs.Output.{outcome, writes, written}
use Rattle.voting.specs.Settings.{mainnet}
use Rattle.ports.specs.declared.Input.{Input}
use Rattle.ports.specs.declared.Output.{Output}
use Rattle.ports.proofs.Laws.{text-fits}
use Rattle.ports.specs.Ports.{unread, unwritten, read, ended, broken, came, wrote, sent, read-on, wrote_on, read_none, wrote_none}
use Rattle.stream.specs.declared.run.Run.{Run}
use Rattle.stream.specs.declared.run.Fed.{Fed}
use Rattle.stream.specs.Lines.{head_line, end_line, line_most}
use Rattle.stream.specs.Run.{begun, ahead, longest_record, too_short, Ready, ended as run_ended, After, stands, feed_of, last_by, last_of, finish_of, fail_of, fed_of, Feeds}
use Rattle.stream.specs.Driven.{mainnet_start, replay_prints, Begins}
use Rattle.stream.proofs.Laws.Added.{never, written_is, front-is}
use Rattle.stream.proofs.Laws.Run.{ahead-over}
use Rattle.stream.proofs.Laws.Feed.{ready-enough, end_line_lem, fail-line, finishes}
use Rattle.replay_io.specs.declared.Done.{Done}
use Rattle.replay_io.specs.Replays.{Moves, IsEmpty, most, Feeding, Reading}

-- ---- a text that was written into the buffer and is handed over

-- the part of the buffer that is handed over
module _ (text out out' : List ℕ) (q : out' ≡ written text out) (n : ℕ) (e : n ≡ length text) where
  pub handed-text : take n out' ≡ text
  handed-text = let z : n ≡ n - 0 = omega arith in ap (λ (k : ℕ). take k out') z ∙ text-fits text out out' q n e

  pub handed-booked : (o : Output) (b : Bool) (o' : Output) → o' ≡ sent b (wrote o (take n out')) → o' ≡ sent b (wrote o text)
  handed-booked o b o' s = s ∙ ap (λ (x : List ℕ). sent b (wrote o x)) handed-text

-- the first line
module _ (out : List ℕ) (h : line_most ≤ length out) (w : Result ℕ Refusal) (out' : List ℕ) (q : outcome w out' ≡ writes head_line out) where
  room : length head_line ≤ length out
  unfolding head_line
  room = omega (arith, h)

  pub head-passes : IsOk w
  head-passes = go w refl
    where
      go : (x : Result ℕ Refusal) → w ≡ x → IsOk x
      go (Ok n) r = refl
      go (Err e) r = absurd (never head_line out room w out' q e r)

  module _ (n : ℕ) (r : w ≡ Ok n) where
    pub head-inside : n ≤ length out
    head-inside = omega (arith, room, written_is head_line out room w out' q n r)

    pub head-is : take n out' ≡ head_line
    head-is = front-is head_line out room w out' q n r

    pub head-sent : (o : Output) (b : Bool) (o' : Output) → o' ≡ sent b (wrote o (take n out')) → o' ≡ sent b (wrote o head_line)
    head-sent o b o' e = e ∙ ap (λ (x : List ℕ). sent b (wrote o x)) head-is

-- the last line
abbrev count : Result Fed Refusal → ℕ
count (Ok fed) = fed.wrote
count (Err e) = 0

module _ (r : Run) (cells : List ℕ) (k : ℕ) (out : List ℕ) (y : Result Fed Refusal) (q : y ≡ fed_of (last_of r cells k (length out))) where
  abbrev line : After
  line = record { check = passed; run = run_ended r; cells = cells; used = 0; text = end_line r.accepted k }

  abbrev ends : Bool → Bool → After
  ends short over = cond short (stands (Err OutputShort) r cells) (cond over (stands passed r cells) line)

  pub last-passes : Ready r cells → line_most ≤ length out → IsOk y
  unfolding last_of last_by
  last-passes ready place = subst IsOk (sym q) (go (too_short r (length cells) (length out)) r.over (ready-enough r cells (length out) ready place))
    where
      go : (short over : Bool) → short ≡ false → IsOk (fed_of (ends short over))
      go true over e = absurd (true≢false e)
      go false true e = refl
      go false false e = refl

  module _ (fed : Fed) (f : y ≡ Ok fed) where
    pub last-wrote : fed.wrote ≡ length (last_of r cells k (length out)).text
    unfolding last_of last_by
    last-wrote = ap count (sym f ∙ q) ∙ go (too_short r (length cells) (length out)) r.over
      where
        go : (short over : Bool) → count (fed_of (ends short over)) ≡ length (ends short over).text
        go true over = refl
        go false true = refl
        go false false = refl

-- a bound by a length that stays
pub still-above : (x m n : ℕ) → n ≡ m → x ≤ m → x ≤ n
still-above x m n e h = omega (arith, e, h)

-- ---- a piece

-- what a call of `feed` leaves, of what is left of a piece from a position on
abbrev pub rest : List ℕ → ℕ → List ℕ
rest piece at = take (length piece - at) (drop at piece)

module _ (T : List ℕ → Type 0) (run : Run) (cells piece : List ℕ) (output : Output) where
  pub feeding-none : Ready run cells → T [] → Feeding T run cells piece output 0 run cells false output
  feeding-none y t = record { text = []; is = λ to before e. e ∙ ap (wrote (unwritten to)) (sym (append-nil before)); goes_on = λ more. refl; ready = y; took = λ f. t }

  module _ (at : ℕ) (r : Run) (cells₁ : List ℕ) (o : Output) (g : Feeding T run cells piece output at r cells₁ false o) (out : List ℕ) (place : line_most ≤ length out)
      (x : Ready r cells₁ → line_most ≤ length out → Feeds r cells₁ (rest piece at) (length out) (feed_of r cells₁ (rest piece at) (length out))) where
    abbrev a : After
    a = feed_of r cells₁ (rest piece at) (length out)

    rest-is : rest piece at ≡ drop at piece
    rest-is = take_all (length piece - at) (drop at piece) (omega (arith, length-drop at piece))

    p : Feeds r cells₁ (rest piece at) (length out) a
    p = x g.ready place

    abbrev told : Fed
    told = record { run = a.run; used = a.used; wrote = length a.text }

    -- the call is not refused
    passes : fed_of a ≡ Ok told
    passes = ap (λ (c : Check). and_then c (λ _. Ok told)) p.passes

    pub feeding-passes : IsOk (fed_of a)
    feeding-passes = subst IsOk (sym passes) refl

    module _ (fed : Fed) (handed-back : fed_of a ≡ Ok fed) (cells₂ : List ℕ) (is-cells : cells₂ ≡ a.cells) (out₂ : List ℕ) (is-out : out₂ ≡ written a.text out) where
      same_fed : {f g : Fed} → ◌≡◌ {A = Result Fed Refusal} (Ok f) (Ok g) → f ≡ g
      same_fed q = cc

      is-fed : fed ≡ told
      is-fed = same_fed (sym handed-back ∙ passes)

      used-is : fed.used ≡ a.used
      used-is = ap (λ (f : Fed). f.used) is-fed

      pub feeding-inside : at ≤ length piece → at + fed.used ≤ length piece
      feeding-inside h = omega (arith, h, p.inside, used-is, ap length rest-is, length-drop at piece)

      pub feeding-on : (b : Bool) (o₂ : Output) → o₂ ≡ sent b (wrote o (take fed.wrote out₂)) → (A T' : List ℕ → Type 0) → (b ≡ false → A (take fed.wrote out₂)) → ((s u : List ℕ) → T s → A u → T' (s ++ u)) → Feeding T' run cells piece output (at + fed.used) fed.run cells₂ b o₂
      feeding-on b o₂ e A T' h join =
          let t = a.text in
          let s = g.text in
          let went : o₂ ≡ sent b (wrote o t) = handed-booked t out out₂ is-out fed.wrote (ap (λ (f : Fed). f.wrote) is-fed) o b o₂ e in
          let same : ahead a.run a.cells ≡ ahead fed.run cells₂ = ap (λ (f : Fed). ahead f.run a.cells) (sym is-fed) ∙ ap (ahead fed.run) (sym is-cells) in
          record {
            text = s ++ t;
            is = λ to before h.
                went
                ∙ ap (λ (y : Output). sent b (wrote y t)) (g.is to before h)
                ∙ ap (sent b) (wrote_on (unwritten to) (before ++ s) t ∙ ap (wrote (unwritten to)) (append_assoc before s t));
            goes_on = λ more.
                g.goes_on more
                ∙ ap (λ (y : List ℕ). s ++ ahead r cells₁ (y ++ more)) (sym rest-is)
                ∙ ap (λ (y : List ℕ). s ++ y) (p.goes_on more)
                ∙ sym (append_assoc s t (ahead a.run a.cells (drop a.used (rest piece at) ++ more)))
                ∙ ap (λ (y : List ℕ). s ++ t ++ ahead a.run a.cells (drop a.used y ++ more)) rest-is
                ∙ ap (λ (y : List ℕ). s ++ t ++ ahead a.run a.cells (y ++ more)) (drop-drop a.used at piece)
                ∙ ap (λ (k : ℕ). s ++ t ++ ahead a.run a.cells (drop (at + k) piece ++ more)) (sym used-is)
                ∙ ap (λ (f : List ℕ → List ℕ). s ++ t ++ f (drop (at + fed.used) piece ++ more)) same;
            ready = subst (λ (f : Fed). Ready f.run cells₂) (sym is-fed) (subst (Ready a.run) (sym is-cells) p.ready);
            took = λ f. join s t (g.took refl) (subst A (handed-text t out out₂ is-out fed.wrote (ap (λ (f : Fed). f.wrote) is-fed)) (h f));
          }

-- before a call: the piece was fed up to a position, and the buffers are as long as they were
pub record Going (T : List ℕ → Type 0) (run : Run) (cells₀ piece : List ℕ) (output : Output) (out₀ : List ℕ) (at : ℕ) (r : Run) (cells : List ℕ) (o : Output) (out : List ℕ) : Type 0 where
  pub feeding : Feeding T run cells₀ piece output at r cells false o
  pub inside : at ≤ length piece
  pub room : line_most ≤ length out
  pub cells-long : length cells ≡ length cells₀
  pub out-long : length out ≡ length out₀

module _ (T : List ℕ → Type 0) (run : Run) (cells₀ piece : List ℕ) (output : Output) (out₀ : List ℕ) where
  pub going-starts : Ready run cells₀ × (line_most ≤ length out₀) → T [] → Going T run cells₀ piece output out₀ 0 run cells₀ output out₀
  going-starts h t = record { feeding = feeding-none T run cells₀ piece output h.0 t; inside = omega arith; room = h.1; cells-long = refl; out-long = refl }

  module _ (at : ℕ) (r : Run) (cells : List ℕ) (o : Output) (out : List ℕ) (g : Going T run cells₀ piece output out₀ at r cells o out) (y : Result Fed Refusal) (cells₂ out₂ : List ℕ)
      (x : (y ≡ fed_of (feed_of r cells (rest piece at) (length out)))
      × ((cells₂ ≡ (feed_of r cells (rest piece at) (length out)).cells)
      × ((out₂ ≡ written (feed_of r cells (rest piece at) (length out)).text out)
      × (Ready r cells → line_most ≤ length out → Feeds r cells (rest piece at) (length out) (feed_of r cells (rest piece at) (length out)))))) where
    pub going-passes : IsOk y
    going-passes = subst IsOk (sym x.0) (feeding-passes T run cells₀ piece output at r cells o g.feeding out g.room x.1.1.1)

    module _ (fed : Fed) (f : y ≡ Ok fed) where
      pub going-inside : at + fed.used ≤ length piece
      going-inside = feeding-inside T run cells₀ piece output at r cells o g.feeding out g.room x.1.1.1 fed (sym x.0 ∙ f) cells₂ x.1.0 out₂ x.1.1.0 g.inside

      module _ (b : Bool) (o₂ : Output) (e : o₂ ≡ sent b (wrote o (take fed.wrote out₂))) (A T' : List ℕ → Type 0) (h : b ≡ false → A (take fed.wrote out₂))
          (join : (s u : List ℕ) → T s → A u → T' (s ++ u)) where
        fed-on : Feeding T' run cells₀ piece output (at + fed.used) fed.run cells₂ b o₂
        fed-on = feeding-on T run cells₀ piece output at r cells o g.feeding out g.room x.1.1.1 fed (sym x.0 ∙ f) cells₂ x.1.0 out₂ x.1.1.0 b o₂ e A T' h join

        pub going_on : b ≡ false → length cells₂ ≡ length cells → length out₂ ≡ length out → Going T' run cells₀ piece output out₀ (at + fed.used) fed.run cells₂ o₂ out₂
        going_on z same same_out =
            record {
              feeding = subst (λ (w : Bool). Feeding T' run cells₀ piece output (at + fed.used) fed.run cells₂ w o₂) z fed-on;
              inside = going-inside;
              room = omega (arith, g.room, same_out);
              cells-long = same ∙ g.cells-long;
              out-long = same_out ∙ g.out-long;
            }

        pub going-cut : b ≡ true → Feeding T' run cells₀ piece output (at + fed.used) fed.run cells₂ true o₂ × (true ≡ false → length piece ≤ at + fed.used)
        going-cut z = (subst (λ (w : Bool). Feeding T' run cells₀ piece output (at + fed.used) fed.run cells₂ w o₂) z fed-on, λ u. absurd (true≢false u))

-- ---- the pieces

-- what `stopped` answers
abbrev done_by : Input → Output → (at_end failed cut_off long : Bool) → Done
done_by i o at_end failed cut_off long = record { input = i; output = o; refusal = None; ended = at_end; read_failed = failed; write_failed = cut_off; too_long = long }

answers : (G T : List ℕ → Type 0) (E : Type 0) (from to : ℕ) (i : Input) (o : Output) (at_end failed cut_off long : Bool) → Moves G T E from to (done_by i o at_end failed cut_off long)
    → (d : Done) → d ≡ done_by i o at_end failed cut_off long → Moves G T E from to d × (d.refusal ≡ None)
answers G T E from to i o at_end failed cut_off long y d q = (subst (Moves G T E from to) (sym q) y, ap (λ (x : Done). x.refusal) q)

-- the first line was handed over
module _ (G T : List ℕ → Type 0) (E : Type 0) (from to : ℕ) (r : Run) (is-r : r ≡ begun mainnet_start) (b : Begins replay_prints (longest_record mainnet) r) (i : Input) (is-i : i ≡ unread from)
    (c : Bool) (o e : Output) (is-e : e ≡ unwritten to) (is-o : o ≡ sent c (wrote e head_line)) (given : G []) (taken : c ≡ false → T head_line) where
  first-input : i ≡ read (unread from) []
  first-input = is-i ∙ sym (read_none from)

  first-output : (x : Bool) → c ≡ x → o ≡ sent x (wrote (unwritten to) head_line)
  first-output x f = is-o ∙ ap (λ (y : Output). sent c (wrote y head_line)) is-e ∙ ap (λ (y : Bool). sent y (wrote (unwritten to) head_line)) f

  pub reading-starts : c ≡ false → (cells : List ℕ) → longest_record mainnet ≤ length cells → Reading G T from to 18446744073709551615 r cells i o
  reading-starts f cells h =
      record {
        bytes = [];
        text = head_line;
        is-input = first-input;
        is-output = first-output false f;
        goes_on = λ more. b.opens cells more;
        ready = b.ready cells h;
        on = ap (λ (x : Run). x.over) is-r;
        counted = omega arith;
        gave = given;
        took = taken f;
      }

  pub head-failed : c ≡ true → (d : Done) → d ≡ done_by i o false false true false → Moves G T E from to d × (d.refusal ≡ None)
  head-failed f =
      answers G T E from to i o false false true false
      (record {
        replays = record {
          bytes = [];
          text = head_line;
          is-input = first-input;
          is-output = first-output true f;
          whole = λ u v w. absurd (true≢false w);
          begun = λ u more v. record { rest = ahead r [] more; is = b.opens [] more };
          broke = λ u. absurd (true≢false (sym u));
          long = λ u. absurd (true≢false (sym u));
          refused = λ u. absurd (u refl);
        };
        gave = given;
        took = λ u. absurd (true≢false u);
        ends = λ u. absurd (true≢false (sym u));
      })

pub unmoved : (from to : ℕ) (i : Input) → i ≡ unread from → (o : Output) → o ≡ unwritten to
    → (E : Type 0) → Moves IsEmpty IsEmpty E from to (record { input = i; output = o; refusal = Some OutputShort; ended = false; read_failed = false; write_failed = false; too_long = false })
unmoved from to i is-i o is-o E =
    record {
      replays = record {
        bytes = [];
        text = [];
        is-input = is-i ∙ sym (read_none from);
        is-output = is-o ∙ sym (wrote_none to);
        whole = λ u. absurd (some-none u);
        begun = λ u more v. record { rest = replay_prints more; is = refl };
        broke = λ u. absurd (true≢false (sym u));
        long = λ u. absurd (true≢false (sym u));
        refused = λ u. (refl, refl);
      };
      gave = refl;
      took = λ u. refl;
      ends = λ u. absurd (true≢false (sym u));
    }
  where
    some-none : ◌≡◌ {A = Option Refusal} (Some OutputShort) None → ⊥
    some-none q = cc

module _ (G T : List ℕ → Type 0) (from to left : ℕ) (r : Run) (cells : List ℕ) (i : Input) (o : Output) (g : Reading G T from to left r cells i o) where
  all : replay_prints g.bytes ≡ g.text ++ ahead r cells []
  all = ap replay_prints (sym (append-nil g.bytes)) ∙ g.goes_on []

  handed-is : (b : Bool) (o' : Output) (t : List ℕ) → o' ≡ sent b (wrote o t) → o' ≡ sent b (wrote (unwritten to) (g.text ++ t))
  handed-is b o' t e = e ∙ ap (λ (x : Output). sent b (wrote x t)) g.is-output ∙ ap (sent b) (wrote_on (unwritten to) g.text t)

  -- so many bytes were read that no turn is left
  pub ends-long : (E : Type 0) → left ≤ 0 → (d : Done) → d ≡ done_by i o false false false true → Moves G T E from to d × (d.refusal ≡ None)
  ends-long E h =
      answers G T E from to i o false false false true
      (record {
        replays = record {
          bytes = g.bytes;
          text = g.text;
          is-input = g.is-input;
          is-output = g.is-output;
          whole = λ u v w x. absurd (true≢false x);
          begun = λ u more v. record { rest = ahead r cells more; is = g.goes_on more };
          broke = λ u. absurd (true≢false (sym u));
          long = λ u. omega (arith, h, g.counted);
          refused = λ u. absurd (u refl);
        };
        gave = g.gave;
        took = λ u. g.took;
        ends = λ u. absurd (true≢false (sym u));
      })

  -- what a read did
  module _ (failed : Bool) (i' : Input) (n : ℕ) (buf : List ℕ) (is-i : i' ≡ came failed n i (take n buf))
      (G' T' A B : List ℕ → Type 0) (E : Type 0) (got : A (take n buf)) (join : (s u : List ℕ) → G s → A u → G' (s ++ u)) (joined : (s u : List ℕ) → T s → B u → T' (s ++ u)) where
    none-read : n ≡ 0 → G' g.bytes
    none-read z = subst G' (ap (λ (k : ℕ). g.bytes ++ take k buf) z ∙ append-nil g.bytes) (join g.bytes (take n buf) g.gave got)

    -- it failed
    pub ends-fail : failed ≡ true → n ≡ 0 → (room : ℕ) → line_most ≤ room → (b : Bool) (o' : Output) → o' ≡ sent b (wrote o (fail_of r cells room).text) → (b ≡ false → B (fail_of r cells room).text)
        → (d : Done) → d ≡ done_by i' o' false true b false → Moves G' T' E from to d × (d.refusal ≡ None)
    unfolding came
    ends-fail f z room h b o' e w =
        answers G' T' E from to i' o' false true b false
        (record {
          replays = record {
            bytes = g.bytes;
            text = g.text ++ (fail_of r cells room).text;
            is-input = is-i ∙ ap (λ (x : Bool). came x n i (take n buf)) f ∙ ap broken g.is-input;
            is-output = handed-is b o' (fail_of r cells room).text e;
            whole = λ u v. absurd (true≢false v);
            begun = λ u. absurd (true≢false u);
            broke = λ u. record {
              lines = g.text;
              accepted = r.accepted;
              refusal = cond (eqb r.filled 0) 0 (number RecordMalformed);
              before = all ∙ ap (λ (x : List ℕ). g.text ++ x) (end_line_lem r cells room g.ready g.on);
              is = ap (λ (x : List ℕ). g.text ++ x) (fail-line r cells room g.ready h g.on);
            };
            long = λ u. absurd (true≢false (sym u));
            refused = λ u. absurd (u refl);
          };
          gave = none-read z;
          took = λ u. joined g.text (fail_of r cells room).text g.took (w u);
          ends = λ u. absurd (true≢false (sym u));
        })

    -- it met the end of the input
    pub ends-finish : failed ≡ false → n ≡ 0 → (room : ℕ) → line_most ≤ room → (b : Bool) (o' : Output) → o' ≡ sent b (wrote o (finish_of r cells room).text) → (b ≡ false → B (finish_of r cells room).text) → E
        → (d : Done) → d ≡ done_by i' o' true false b false → Moves G' T' E from to d × (d.refusal ≡ None)
    unfolding came
    ends-finish f z room h b o' e y fin =
        let t = (finish_of r cells room).text in
        let w : g.text ++ t ≡ replay_prints g.bytes = sym (all ∙ ap (λ (x : List ℕ). g.text ++ x) (finishes r cells room g.ready h).all) in
        let v : (more : List ℕ) → more ≡ [] → g.text ++ t ≡ replay_prints (g.bytes ++ more) = λ more m. w ∙ ap replay_prints (sym (ap (λ (x : List ℕ). g.bytes ++ x) m ∙ append-nil g.bytes)) in
        answers G' T' E from to i' o' true false b false
        (record {
          replays = record {
            bytes = g.bytes;
            text = g.text ++ t;
            is-input = is-i ∙ ap (λ (x : Bool). came x n i (take n buf)) f ∙ ap (λ (k : ℕ). cond (eqb k 0) (ended i) (read i (take n buf))) z ∙ ap ended g.is-input;
            is-output = handed-is b o' t e;
            whole = λ a c k l more m. v more (m refl);
            begun = λ a more m. record { rest = []; is = sym (v more (m refl)) ∙ sym (append-nil (g.text ++ t)) };
            broke = λ a. absurd (true≢false (sym a));
            long = λ u. absurd (true≢false (sym u));
            refused = λ u. absurd (u refl);
          };
          gave = none-read z;
          took = λ u. joined g.text t g.took (y u);
          ends = λ u. fin;
        })

    -- it brought bytes, and they were fed
    module _ (f : failed ≡ false) (some : n ≡ 0 → ⊥) (at : ℕ) (r' : Run) (cells' : List ℕ) (b : Bool) (o' : Output) (h : Feeding B r cells (take n buf) o at r' cells' b o') where
      read_is : i' ≡ read (unread from) (g.bytes ++ take n buf)
      unfolding came
      read_is =
          is-i
          ∙ ap (λ (x : Bool). came x n i (take n buf)) f
          ∙ ap (λ (x : Bool). cond x (ended i) (read i (take n buf))) (ne_eqb n 0 some)
          ∙ ap (λ (x : Input). read x (take n buf)) g.is-input
          ∙ read-on (unread from) g.bytes (take n buf)

      goes : (more : List ℕ) → replay_prints ((g.bytes ++ take n buf) ++ more) ≡ (g.text ++ h.text) ++ ahead r' cells' (drop at (take n buf) ++ more)
      goes more =
          ap replay_prints (append_assoc g.bytes (take n buf) more)
          ∙ g.goes_on (take n buf ++ more)
          ∙ ap (λ (x : List ℕ). g.text ++ x) (h.goes_on more)
          ∙ sym (append_assoc g.text h.text (ahead r' cells' (drop at (take n buf) ++ more)))

      -- nothing more is read: a write failed, or the run is over
      ends-early : (v : Bool) → b ≡ v → (v ≡ false → r'.over ≡ true) → (d : Done) → d ≡ done_by i' o' false false v false → Moves G' T' E from to d × (d.refusal ≡ None)
      ends-early v q over =
          answers G' T' E from to i' o' false false v false
          (record {
            replays = record {
              bytes = g.bytes ++ take n buf;
              text = g.text ++ h.text;
              is-input = read_is;
              is-output = h.is to g.text g.is-output ∙ ap (λ (x : Bool). sent x (wrote (unwritten to) (g.text ++ h.text))) q;
              whole = λ u x w y more m.
                  sym (goes more ∙ ap (λ (z : List ℕ). (g.text ++ h.text) ++ z) (ahead-over r' cells' (drop at (take n buf) ++ more) (over w)) ∙ append-nil (g.text ++ h.text));
              begun = λ u more m. record { rest = ahead r' cells' (drop at (take n buf) ++ more); is = goes more };
              broke = λ u. absurd (true≢false (sym u));
              long = λ u. absurd (true≢false (sym u));
              refused = λ u. absurd (u refl);
            };
            gave = join g.bytes (take n buf) g.gave got;
            took = λ u. joined g.text h.text g.took (h.took (q ∙ u));
            ends = λ u. absurd (true≢false (sym u));
          })

      pub ends-cut : b ≡ true → (d : Done) → d ≡ done_by i' o' false false true false → Moves G' T' E from to d × (d.refusal ≡ None)
      ends-cut q = ends-early true q (λ u. absurd (true≢false u))

      pub ends-over : b ≡ false → r'.over ≡ true → (d : Done) → d ≡ done_by i' o' false false false false → Moves G' T' E from to d × (d.refusal ≡ None)
      ends-over q e = ends-early false q (λ u. e)

      pub reading-on : b ≡ false → length (take n buf) ≤ at → r'.over ≡ false → 0 < left → n ≤ length buf → (less : ℕ) → less ≡ left - 1 → Reading G' T' from to less r' cells' i' o'
      reading-on q l on turns fits less is-less =
          let e : drop at (take n buf) ≡ [] = drop_of_length-le (take n buf) {i = at} l in
          record {
            bytes = g.bytes ++ take n buf;
            text = g.text ++ h.text;
            is-input = read_is;
            is-output = h.is to g.text g.is-output ∙ ap (λ (x : Bool). sent x (wrote (unwritten to) (g.text ++ h.text))) q;
            goes_on = λ more. goes more ∙ ap (λ (x : List ℕ). (g.text ++ h.text) ++ ahead r' cells' (x ++ more)) e;
            ready = h.ready;
            on = on;
            counted = subst (λ (m : ℕ). 18446744073709551615 ≤ m + length (g.bytes ++ take n buf)) (sym is-less) (more-read (length-append g.bytes (take n buf)) (length-take-le n buf fits) g.counted turns);
            gave = join g.bytes (take n buf) g.gave got;
            took = joined g.text h.text g.took (h.took q);
          }
        where
          more-read : length (g.bytes ++ take n buf) ≡ length g.bytes + length (take n buf) → length (take n buf) ≡ n → 18446744073709551615 ≤ left + length g.bytes → 0 < left
              → 18446744073709551615 ≤ left - 1 + length (g.bytes ++ take n buf)
          more-read a c k t = go n refl
            where
              go : (m : ℕ) → n ≡ m → 18446744073709551615 ≤ left - 1 + length (g.bytes ++ take n buf)
              go zero z = absurd (some z)
              go (suc m) z = omega (arith, a, c, k, t, z)

-- ---- the buffers

pub cells-enough : longest_record mainnet ≤ 35853
unfolding mainnet
cells-enough = omega arith

module _ (piece room : ℕ) (b : Bool) (is_b : b ≡ (eqb piece 0 || ltb room line_most)) where
  room-long : b ≡ false → line_most ≤ room
  room-long e = go (eqb piece 0) (ltb room line_most) refl (sym is_b ∙ e)
    where
      go : (x y : Bool) → ltb room line_most ≡ y → (x || y) ≡ false → line_most ≤ room
      go false false q r = ltb-false room line_most q
      go false true q r = absurd (true≢false r)
      go true y q r = absurd (true≢false r)

  piece-some : b ≡ false → (m : ℕ) → m ≡ min piece most → 0 < m
  piece-some e m p = go (eqb piece 0) refl (sym is_b ∙ e)
    where
      go : (x : Bool) → eqb piece 0 ≡ x → (x || ltb room line_most) ≡ false → 0 < m
      go false q r = some piece refl q
        where
          some : (n : ℕ) → piece ≡ n → eqb piece 0 ≡ false → 0 < m
          some zero z u = absurd (true≢false (sym (ap (λ (y : ℕ). eqb y 0) z) ∙ u))
          some (suc n) z u = omega (arith, p, z)
      go true q r = absurd (true≢false r)

  -- the parts of the buffers that are used
  pub piece-part : b ≡ false → (m : ℕ) → m ≡ min piece most → (buf : List ℕ) → length buf ≡ most → 0 < length (take m buf)
  piece-part e m p buf l = let h = piece-some e m p in let z : m ≤ length buf = omega (arith, p, l) in omega (arith, length-take-le m buf z, h)

  pub room-part : b ≡ false → (n : ℕ) → n ≡ min room most → (out : List ℕ) → length out ≡ most → line_most ≤ length (take n out)
  room-part e n q out l = let h = room-long e in let z : n ≤ length out = omega (arith, q, l) in omega (arith, length-take-le n out z, q, h)

pub answered : (piece place : ℕ) (b : Bool) → b ≡ (eqb piece 0 || ltb place line_most) → (v : Bool) → b ≡ v → (n : Option Refusal) → n ≡ cond v (Some OutputShort) None
    → n ≡ cond (eqb piece 0 || ltb place line_most) (Some OutputShort) None
answered piece place b is_b v e n h = h ∙ ap (λ (x : Bool). cond x (Some OutputShort) None) (sym e ∙ is_b)

-- what is told may be told in other words
pub moved-as : (G T G' T' : List ℕ → Type 0) (E E' : Type 0) (from to : ℕ) (d : Done) → ((l : List ℕ) → G l → G' l) → ((l : List ℕ) → T l → T' l) → (E → E') → Moves G T E from to d
    → Moves G' T' E' from to d
moved-as G T G' T' E E' from to d f h e m = record { replays = m.replays; gave = f m.replays.bytes m.gave; took = λ u. h m.replays.text (m.took u); ends = λ u. e (m.ends u) }

pub ends-met : (G T : List ℕ → Type 0) (P E : Type 0) (from to : ℕ) (d : Done) → Moves G T (P → E) from to d → P → Moves G T E from to d
ends-met G T P E from to d m p = moved-as G T G T (P → E) E from to d (λ l h. h) (λ l h. h) (λ e. e p) m

-- what is printed, where the reader's and the writer's bytes are known
pub printed-known : (s s' k k' : Option (List ℕ)) (from to : ℕ) (d : Done) → Moves (Consumes s s') (Appends k k') (IsAtEnd s') from to d → d.refusal ≡ None → d.read_failed ≡ false
    → d.write_failed ≡ false → d.too_long ≡ false → IfSome s (λ xs. Appends k k' (replay_prints xs))
printed-known None s' k k' from to d m a b c e = tt
printed-known (Some xs) None k k' from to d m a b c e = absurd m.gave
printed-known (Some xs) (Some ys) k k' from to d m a b c e =
    subst (Appends k k') (m.replays.whole a b c e ys m.ends ∙ ap replay_prints (sym m.gave)) (m.took c)

pub reading-as : (G T G' T' : List ℕ → Type 0) (from to left : ℕ) (r : Run) (cells : List ℕ) (i : Input) (o : Output) → ((l : List ℕ) → G l → G' l) → ((l : List ℕ) → T l → T' l)
    → Reading G T from to left r cells i o → Reading G' T' from to left r cells i o
reading-as G T G' T' from to left r cells i o f h g =
    record {
      bytes = g.bytes;
      text = g.text;
      is-input = g.is-input;
      is-output = g.is-output;
      goes_on = g.goes_on;
      ready = g.ready;
      on = g.on;
      counted = g.counted;
      gave = f g.bytes g.gave;
      took = h g.text g.took;
    }
