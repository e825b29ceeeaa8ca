-- The calls of a run, by the ways through their code; and what they mean.
-- Assumes nothing.
use Rattle.std.proofs.Common.{Result, Ok, Err, IfOk, ◌≡◌, ℕ, zero, suc, ◌+◌, ◌-◌, ◌<◌, ◌≤◌, Bool, true, false, cond, ◌||◌, eqb, ltb, List, [], ◌++◌, length, take, drop, sym, refl, ap, ◌∙◌, subst, true≢false, append_assoc, append-nil, sub-one, arith, length-append, length-drop, take-append-drop, length-take-le, take_all, drop-drop, ltb-false, ltb-true, le-ltb, eq-eqb, ne_eqb, eqb-true}
use borrow.Author.Tests.{eqb-false}
use Rattle.codec.specs.Output.{written}
use Rattle.codec.specs.declared.refusal.Refusal.{Refusal}
use Rattle.codec.specs.declared.refusal.Refusal.TheVariants.{OutputShort, RecordMalformed}
use Rattle.codec.specs.Refusal.{number}
use Rattle.codec.specs.Check.{Check, passed, and_then}
use Rattle.voting.specs.declared.settings.VotingConfig.{VotingConfig}
use Rattle.stream.specs.declared.run.Run.{Run}
use Rattle.stream.specs.declared.run.Took.{Took}
use Rattle.stream.specs.declared.run.Fed.{Fed}
use Rattle.stream.specs.declared.run.Print.{Print}
use Rattle.stream.specs.declared.run.Print.TheVariants.{End}
use Rattle.stream.specs.Lines.{end_line, line_most}
use Rattle.stream.specs.Added.{Added}
use Rattle.stream.specs.Stream.{unless, printed_after, Held, of-short, of-unless}
use Rattle.stream.specs.Run.{end_at, step_of, held, ahead, longest_record, too_short, Ready, text_of, ended, took_of, took_cells, After, stands, behind, feed_by, feed_of, last_by, last_of, finish_of, fail_of, fed_of, Feeds, Ends}
use Rattle.stream.proofs.Laws.Added.{added-long, added-front, added-rest}
use Rattle.stream.proofs.Laws.Stream.{left-none, left-short}
use Rattle.stream.proofs.Laws.Reading.{lawful, says}
use Rattle.stream.proofs.Laws.Lines.{end-most}
use Rattle.stream.proofs.Laws.Run.{cond_yes, cond_no, took, ahead-over, ahead-on, text-most, Goes, record-goes, Holds, took-holds}

or_no : (a b : Bool) → (a || b) ≡ false → (a ≡ false) × (b ≡ false)
or_no false false e = (refl, refl)
or_no false true e = absurd (true≢false e)
or_no true b e = absurd (true≢false e)

-- ---- the buffers are long enough

pub record Enough (r : Run) (cells room : ℕ) : Type 0 where
  pub line : line_most ≤ room
  pub longest : longest_record r.replay.settings ≤ cells
  pub filled : r.filled ≤ cells

pub enough : (r : Run) (cells room : ℕ) (b : Bool) → b ≡ too_short r cells room → b ≡ false → Enough r cells room
unfolding too_short
enough r cells room b q e =
    let o = or_no (ltb room line_most || ltb cells (longest_record r.replay.settings)) (ltb cells r.filled) (sym q ∙ e) in
    let p = or_no (ltb room line_most) (ltb cells (longest_record r.replay.settings)) o.0 in
    record { line = ltb-false room line_most p.0; longest = ltb-false cells (longest_record r.replay.settings) p.1; filled = ltb-false cells r.filled o.1 }

pub ready-enough : (r : Run) (cells : List ℕ) (room : ℕ) → Ready r cells → line_most ≤ room → too_short r (length cells) room ≡ false
unfolding too_short
ready-enough r cells room y h = rw (le-ltb room line_most h, le-ltb (length cells) (longest_record r.replay.settings) y.room, le-ltb (length cells) r.filled y.inside)

-- ---- what the turns of the loop mean

none-fed : (room : ℕ) (r : Run) (cells piece : List ℕ) → Ready r cells → (line_most ≤ room → 0 < length piece → ⊥) → (0 < length piece → room < line_most) → Feeds r cells piece room (stands passed r cells)
none-fed room r cells piece y none full =
    record {
      passes = refl;
      inside = omega arith;
      moves = λ h g. absurd (none h g);
      fits = omega arith;
      most = λ h. full h;
      goes_on = λ more. refl;
      ready = y;
    }

module _ (room : ℕ) (r : Run) (cells piece : List ℕ) (y : Ready r cells) (some : 0 < length piece) (place : line_most ≤ room) where
  abbrev f : Took
  f = took_of r cells piece

  abbrev after : List ℕ
  after = took_cells r cells piece

  abbrev t : List ℕ
  t = text_of f.print

  x : Goes r cells piece f after
  x = record-goes r cells piece y some

  -- nothing of what is to be printed is lost
  turn_on : (a : After) → Feeds f.run after (drop f.used piece) (room - length t) a → (more : List ℕ)
      → ahead r cells (piece ++ more) ≡ (behind f.used t a).text ++ ahead a.run a.cells (drop (f.used + a.used) piece ++ more)
  unfolding behind
  turn_on a p more =
      x.goes_on more
      ∙ ap (λ (z : List ℕ). t ++ z) (p.goes_on more)
      ∙ sym (append_assoc t a.text (ahead a.run a.cells (drop a.used (drop f.used piece) ++ more)))
      ∙ ap (λ (z : List ℕ). t ++ a.text ++ ahead a.run a.cells (z ++ more)) (drop-drop a.used f.used piece)

  turn-goes : (a : After) → Feeds f.run after (drop f.used piece) (room - length t) a → Feeds r cells piece room (behind f.used t a)
  unfolding behind
  turn-goes a p =
      let u = x.inside in
      let m = x.moves in
      let d = length-drop f.used piece in
      let w = length-append t a.text in
      let short = text-most f.print in
      record {
        passes = p.passes;
        inside = omega (arith, p.inside, u, d);
        moves = λ h g. omega (arith, m);
        fits = omega (arith, p.fits, w, short, place);
        most = λ h. let g = p.most (omega (arith, h, d)) in omega (arith, g, w);
        goes_on = turn_on a p;
        ready = p.ready;
      }

abbrev Turns : ℕ → Type 0
Turns k = (room : ℕ) (r : Run) (cells piece : List ℕ) → Ready r cells → length piece ≤ k → Feeds r cells piece room (feed_by k room r cells piece)

turn : (k : ℕ) → Turns k → (room : ℕ) (r : Run) (cells piece : List ℕ) → Ready r cells → length piece ≤ suc k
    → (a : Bool) → eqb (length piece) 0 ≡ a → (b : Bool) → ltb room line_most ≡ b
    → Feeds r cells piece room
    (cond (a || b) (stands passed r cells)
    (behind (took_of r cells piece).used (text_of (took_of r cells piece).print)
    (feed_by k (room - length (text_of (took_of r cells piece).print)) (took_of r cells piece).run (took_cells r cells piece) (drop (took_of r cells piece).used piece))))
turn k again room r cells piece y h true p b q =
    let z = eqb-true (length piece) 0 p in none-fed room r cells piece y (λ g i. omega (arith, z, i)) (λ i. absurd (omega (arith, z, i)))
turn k again room r cells piece y h false p true q =
    let z = ltb-true room line_most q in none-fed room r cells piece y (λ g i. omega (arith, z, g)) (λ i. z)
turn k again room r cells piece y h false p false q =
    let some = length_some (eqb-false (length piece) 0 p) in
    let place = ltb-false room line_most q in
    let f = took_of r cells piece in
    let g = record-goes r cells piece y some in
    let m = g.moves in
    let d = length-drop f.used piece in
    turn-goes room r cells piece y some place _ (again (room - length (text_of f.print)) f.run (took_cells r cells piece) (drop f.used piece) g.ready (omega (arith, h, m, d)))
  where
    length_some : (length piece ≡ 0 → ⊥) → 0 < length piece
    length_some z = go (length piece) refl
      where
        go : (n : ℕ) → length piece ≡ n → 0 < length piece
        go zero e = absurd (z e)
        go (suc n) e = omega (arith, e)

by-turns : (k : ℕ) → Turns k
unfolding feed_by
by-turns zero room r cells piece y h = none-fed room r cells piece y (λ g i. omega (arith, h, i)) (λ i. absurd (omega (arith, h, i)))
by-turns (suc k) room r cells piece y h = turn k (by-turns k) room r cells piece y h (eqb (length piece) 0) refl (ltb room line_most) refl

pub feeds : (room : ℕ) (r : Run) (cells piece : List ℕ) → Ready r cells → line_most ≤ room → Feeds r cells piece room (feed_of r cells piece room)
unfolding feed_of
feeds room r cells piece y h =
    subst (Feeds r cells piece room) (cond_no (too_short r (length cells) room) _ _ (ready-enough r cells room y h)) (by-turns (length piece) room r cells piece y (omega arith))

-- ---- the turns of the code

behind-none : (a : After) → behind 0 [] a ≡ a
unfolding behind
behind-none a = let z : 0 + a.used ≡ a.used = omega arith in ap (λ (n : ℕ). record { check = a.check; run = a.run; cells = a.cells; used = n; text = a.text }) z

behind-stands : (at : ℕ) (c : Check) (text : List ℕ) (r : Run) (cells : List ℕ) → behind at text (stands c r cells) ≡ record { check = c; run = r; cells = cells; used = at; text = text }
unfolding behind
behind-stands at c text r cells =
    let z : at + 0 ≡ at = omega arith in
    ap (λ (k : ℕ). record { check = c; run = r; cells = cells; used = k; text = text ++ [] }) z
    ∙ ap (λ (t : List ℕ). record { check = c; run = r; cells = cells; used = at; text = t }) (append-nil text)

behind-behind : (at u : ℕ) (w t : List ℕ) (a : After) → behind at w (behind u t a) ≡ behind (at + u) (w ++ t) a
unfolding behind
behind-behind at u w t a =
    let z : at + (u + a.used) ≡ at + u + a.used = omega arith in
    ap (λ (n : ℕ). record { check = a.check; run = a.run; cells = a.cells; used = n; text = w ++ (t ++ a.text) }) z
    ∙ ap (λ (x : List ℕ). record { check = a.check; run = a.run; cells = a.cells; used = at + u + a.used; text = x }) (sym (append_assoc w t a.text))

module _ (turns room : ℕ) (r : Run) (cells p : List ℕ) where
  turns-none : turns ≤ 0 → feed_by turns room r cells p ≡ stands passed r cells
  turns-none h = go turns h
    where
      go : (k : ℕ) → k ≤ 0 → feed_by k room r cells p ≡ stands passed r cells
      go zero h = unfold feed_by in refl
      go (suc k) h = absurd (omega arith)

  abbrev turned : ℕ → After
  turned k =
      behind (took_of r cells p).used (text_of (took_of r cells p).print)
      (feed_by k (room - length (text_of (took_of r cells p).print)) (took_of r cells p).run (took_cells r cells p) (drop (took_of r cells p).used p))

  module _ (some : 0 < turns) where
    turn_is : feed_by turns room r cells p ≡ cond (eqb (length p) 0 || ltb room line_most) (stands passed r cells) (turned (turns - 1))
    turn_is = go turns some
      where
        go : (k : ℕ) → 0 < k → feed_by k room r cells p ≡ cond (eqb (length p) 0 || ltb room line_most) (stands passed r cells) (turned (k - 1))
        go zero h = absurd (omega arith)
        go (suc k) h = unfold feed_by in (rw sub-one)

    turn-stops : (eqb (length p) 0 || ltb room line_most) ≡ true → feed_by turns room r cells p ≡ stands passed r cells
    turn-stops e = turn_is ∙ sym (cond_yes (eqb (length p) 0 || ltb room line_most) _ _ e)

    turn-takes : (eqb (length p) 0 || ltb room line_most) ≡ false → feed_by turns room r cells p ≡ turned (turns - 1)
    turn-takes e = turn_is ∙ sym (cond_no (eqb (length p) 0 || ltb room line_most) _ _ e)

-- ---- the call `feed`

module _ (r₀ : Run) (cells₀ piece out₀ : List ℕ) where
  abbrev pub fed-whole : After
  fed-whole = feed_of r₀ cells₀ piece (length out₀)

  -- no more is taken and written than there is room for
  abbrev Inside : Result Fed Refusal → Type 0
  Inside f = IfOk f (λ fed. (fed.used ≤ length piece) × (fed.wrote ≤ length out₀))

  abbrev pub Post : Result Fed Refusal → List ℕ → List ℕ → Type 0
  Post f cells out =
      (f ≡ fed_of fed-whole)
      × ((cells ≡ fed-whole.cells)
      × ((out ≡ written fed-whole.text out₀)
      × ((Ready r₀ cells₀ → line_most ≤ length out₀ → Feeds r₀ cells₀ piece (length out₀) fed-whole)
      × Inside f)))

  closed : (a : After) → a ≡ fed-whole → a.used ≤ length piece → length a.text ≤ length out₀
      → (f : Result Fed Refusal) → f ≡ fed_of a → (cells : List ℕ) → cells ≡ a.cells → (out : List ℕ) → out ≡ written a.text out₀ → Post f cells out
  closed a q i j f is_f cells is-cells out is-out = (
    is_f ∙ ap fed_of q,
    (
      is-cells ∙ ap (λ (x : After). x.cells) q,
      (
        is-out ∙ ap (λ (x : After). written x.text out₀) q,
        (feeds (length out₀) r₀ cells₀ piece, subst Inside (sym is_f) (go a.check)),
      ),
    ),
  )
    where
      go : (k : Check) → Inside (and_then k (λ _. Ok (record { run = a.run; used = a.used; wrote = length a.text })))
      go (Ok x) = (i, j)
      go (Err e) = tt

  pub too_short_lem : (b : Bool) → b ≡ too_short r₀ (length cells₀) (length out₀) → b ≡ true → Post (Err OutputShort) cells₀ out₀
  unfolding feed_of
  too_short_lem b q e =
      closed (stands (Err OutputShort) r₀ cells₀) (cond_yes (too_short r₀ (length cells₀) (length out₀)) _ _ (sym q ∙ e)) (omega arith) (omega arith) _ refl cells₀ refl out₀ refl

  -- before a turn: what is left to do, behind what was done, is the whole
  pub record Going (turns at wrote : ℕ) (r : Run) (cells out : List ℕ) : Type 0 where
    pub long : length out ≡ length out₀
    pub cells-long : length cells ≡ length cells₀
    pub wrote-inside : wrote ≤ length out
    pub at-inside : at ≤ length piece
    pub rest : drop wrote out ≡ drop wrote out₀
    pub filled : r.filled ≤ length cells
    pub longest : longest_record r.replay.settings ≤ length cells
    pub is : behind at (take wrote out) (feed_by turns (length out - wrote) r cells (drop at piece)) ≡ fed-whole

  pub begins : (b : Bool) → b ≡ too_short r₀ (length cells₀) (length out₀) → b ≡ false → Going (length piece - 0) 0 0 r₀ cells₀ out₀
  unfolding feed_of
  begins b q e =
      let n = enough r₀ (length cells₀) (length out₀) b q e in
      let z : length out₀ - 0 ≡ length out₀ = omega arith in
      let y : length piece - 0 ≡ length piece = omega arith in
      record {
        long = refl;
        cells-long = refl;
        wrote-inside = omega arith;
        at-inside = omega arith;
        rest = refl;
        filled = n.filled;
        longest = n.longest;
        is = behind-none (feed_by (length piece - 0) (length out₀ - 0) r₀ cells₀ piece)
            ∙ ap (λ (k : ℕ). feed_by k (length out₀ - 0) r₀ cells₀ piece) y
            ∙ ap (λ (k : ℕ). feed_by (length piece) k r₀ cells₀ piece) z
            ∙ cond_no (too_short r₀ (length cells₀) (length out₀)) _ _ (sym q ∙ e);
      }

  module _ (turns at wrote : ℕ) (r : Run) (cells out : List ℕ) (g : Going turns at wrote r cells out) where
    ends : feed_by turns (length out - wrote) r cells (drop at piece) ≡ stands passed r cells → (f : Fed) → f ≡ record { run = r; used = at; wrote = wrote } → Post (Ok f) cells out
    ends q f is_f =
        let l : length (take wrote out) ≡ wrote = length-take-le wrote out g.wrote-inside in
        closed (record { check = passed; run = r; cells = cells; used = at; text = take wrote out })
        (sym (behind-stands at passed (take wrote out) r cells) ∙ ap (behind at (take wrote out)) (sym q) ∙ g.is)
        g.at-inside (omega (arith, l, g.long, g.wrote-inside)) (Ok f)
        (ap Ok (is_f ∙ ap (λ (n : ℕ). record { run = r; used = at; wrote = n }) (sym l)))
        cells refl out
        (sym (take-append-drop wrote out) ∙ ap (λ (t : List ℕ). take wrote out ++ t) g.rest ∙ ap (λ (n : ℕ). take wrote out ++ drop n out₀) (sym l))

    pub no-turns : turns ≤ 0 → (f : Fed) → f ≡ record { run = r; used = at; wrote = wrote } → Post (Ok f) cells out
    no-turns h f q = ends (turns-none turns (length out - wrote) r cells (drop at piece) h) f q

    module _ (some : 0 < turns) (b : Bool) (is_b : b ≡ (eqb (length piece - at) 0 || ltb (length out - wrote) line_most)) where
      test-is : (eqb (length (drop at piece)) 0 || ltb (length out - wrote) line_most) ≡ b
      test-is = ap (λ (n : ℕ). eqb n 0 || ltb (length out - wrote) line_most) (length-drop at piece) ∙ sym is_b

      pub no_more : b ≡ true → (f : Fed) → f ≡ record { run = r; used = at; wrote = wrote } → Post (Ok f) cells out
      no_more e f q = ends (turn-stops turns (length out - wrote) r cells (drop at piece) some (test-is ∙ e)) f q

      module _ (e : b ≡ false) where
        pub line-room : wrote + line_most ≤ length out
        line-room =
            let t = (or_no (eqb (length piece - at) 0) (ltb (length out - wrote) line_most) (sym is_b ∙ e)).1 in
            let h = ltb-false (length out - wrote) line_most t in
            omega (arith, h, g.wrote-inside)

        rest-is : take (length piece - at) (drop at piece) ≡ drop at piece
        rest-is = take_all (length piece - at) (drop at piece) (omega (arith, length-drop at piece))

        module _ (f : Took) (is_f : f ≡ took_of r cells (take (length piece - at) (drop at piece))) (cells' : List ℕ) (is-cells : cells' ≡ took_cells r cells (take (length piece - at) (drop at piece))) where
          f-is : took_of r cells (drop at piece) ≡ f
          f-is = ap (took_of r cells) (sym rest-is) ∙ sym is_f

          cells_are : took_cells r cells (drop at piece) ≡ cells'
          cells_are = ap (took_cells r cells) (sym rest-is) ∙ sym is-cells

          holds : Holds r cells (drop at piece) f
          holds = subst (Holds r cells (drop at piece)) f-is (took-holds r cells (drop at piece) g.filled g.longest)

          pub used-fits : at + f.used ≤ length piece
          used-fits = omega (arith, holds.inside, length-drop at piece, g.at-inside)

          module _ (same : length cells' ≡ length cells) (out' : List ℕ) (next : ℕ) (a : Added (text_of f.print) wrote next out out') where
            abbrev text : List ℕ
            text = text_of f.print

            fits : wrote + length text ≤ length out
            fits = omega (arith, line-room, a.small)

            pub again : (less : ℕ) → less ≡ turns - 1 → Going less (at + f.used) next f.run cells' out'
            again less is-less =
                let long = added-long text wrote next out out' a fits in
                let left : length out - wrote - length text ≡ length out' - next = omega (arith, long, a.ends) in
                let was : feed_by turns (length out - wrote) r cells (drop at piece)
                ≡ behind f.used text (feed_by (turns - 1) (length out - wrote - length text) f.run cells' (drop f.used (drop at piece))) =
                turn-takes turns (length out - wrote) r cells (drop at piece) some (test-is ∙ e)
                ∙ ap (λ (x : Took). behind x.used (text_of x.print) (feed_by (turns - 1) (length out - wrote - length (text_of x.print)) x.run (took_cells r cells (drop at piece)) (drop x.used (drop at piece)))) f-is
                ∙ ap (λ (x : List ℕ). behind f.used text (feed_by (turns - 1) (length out - wrote - length text) f.run x (drop f.used (drop at piece)))) cells_are in
                record {
                  long = long ∙ g.long;
                  cells-long = same ∙ g.cells-long;
                  wrote-inside = omega (arith, long, a.ends, fits);
                  at-inside = used-fits;
                  rest = added-rest text wrote next out out' a fits ∙ ap (λ (n : ℕ). drop n out) a.ends ∙ sym (drop-drop (length text) wrote out) ∙ ap (drop (length text)) g.rest ∙ drop-drop (length text) wrote out₀ ∙ ap (λ (n : ℕ). drop n out₀) (sym a.ends);
                  filled = omega (arith, holds.filled, same);
                  longest = subst (λ (c : VotingConfig). longest_record c ≤ length cells') (sym holds.settings-stay) (omega (arith, g.longest, same));
                  is = ap (λ (k : ℕ). behind (at + f.used) (take next out') (feed_by k (length out' - next) f.run cells' (drop (at + f.used) piece))) is-less
                      ∙ ap (λ (x : List ℕ). behind (at + f.used) x (feed_by (turns - 1) (length out' - next) f.run cells' (drop (at + f.used) piece))) (added-front text wrote next out out' a fits)
                      ∙ ap (λ (n : ℕ). behind (at + f.used) (take wrote out ++ text) (feed_by (turns - 1) n f.run cells' (drop (at + f.used) piece))) (sym left)
                      ∙ ap (λ (x : List ℕ). behind (at + f.used) (take wrote out ++ text) (feed_by (turns - 1) (length out - wrote - length text) f.run cells' x)) (sym (drop-drop f.used at piece))
                      ∙ sym (behind-behind at f.used (take wrote out) text (feed_by (turns - 1) (length out - wrote - length text) f.run cells' (drop f.used (drop at piece))))
                      ∙ ap (behind at (take wrote out)) (sym was)
                      ∙ g.is;
                }

-- ---- the last line

pub end-text : (p : Print) (accepted n : ℕ) → p ≡ End (record { accepted = accepted; refusal = n }) → text_of p ≡ end_line accepted n
unfolding text_of
end-text p accepted n q = ap text_of q

module _ (r : Run) (cells : List ℕ) (n : ℕ) (out : List ℕ) (b : Bool) (is_b : b ≡ too_short r (length cells) (length out)) where
  abbrev pub Last : Result Fed Refusal → List ℕ → Type 0
  Last f out' = (f ≡ fed_of (last_of r cells n (length out))) × (out' ≡ written (last_of r cells n (length out)).text out)

  left : (a : After) → a ≡ last_of r cells n (length out) → (f : Result Fed Refusal) → f ≡ fed_of a → (out' : List ℕ) → out' ≡ written a.text out → Last f out'
  left a q f is_f out' is-out = (is_f ∙ ap fed_of q, is-out ∙ ap (λ (x : After). written x.text out) q)

  pub last-short : b ≡ true → Last (Err OutputShort) out
  unfolding last_of
  last-short e = left (stands (Err OutputShort) r cells) (cond_yes (too_short r (length cells) (length out)) _ _ (sym is_b ∙ e)) _ refl out refl

  module _ (e : b ≡ false) where
    last-by : last_by r cells n ≡ last_of r cells n (length out)
    unfolding last_of
    last-by = cond_no (too_short r (length cells) (length out)) _ _ (sym is_b ∙ e)

    pub last-over : r.over ≡ true → (f : Fed) → f ≡ record { run = r; used = 0; wrote = 0 } → Last (Ok f) out
    unfolding last_by
    last-over o f q = left (stands passed r cells) (cond_yes r.over _ _ o ∙ last-by) (Ok f) (ap Ok q) out refl

    pub last-room : 0 + line_most ≤ length out
    last-room = let h = (enough r (length cells) (length out) b is_b e).line in omega (arith, h)

    pub last_line : r.over ≡ false → (p : Print) → text_of p ≡ end_line r.accepted n → (wrote : ℕ) (out' : List ℕ) → Added (text_of p) 0 wrote out out'
        → (r' : Run) → r' ≡ ended r → (f : Fed) → f ≡ record { run = r'; used = 0; wrote = wrote } → Last (Ok f) out'
    unfolding last_by
    last_line o p t wrote out' a r' is-r f q =
        let z : 0 + length (text_of p) ≡ length (text_of p) = omega arith in
        let is-out : out' ≡ written (text_of p) out = a.is ∙ ap (λ (k : ℕ). text_of p ++ drop k out) z in
        left (record { check = passed; run = ended r; cells = cells; used = 0; text = end_line r.accepted n }) (cond_no r.over _ _ o ∙ last-by) (Ok f)
        (ap Ok (q
        ∙ ap (λ (x : Run). record { run = x; used = 0; wrote = wrote }) is-r
        ∙ ap (λ (k : ℕ). record { run = ended r; used = 0; wrote = k }) (a.ends ∙ z ∙ ap length t)))
        out'
        (is-out ∙ ap (λ (x : List ℕ). written x out) t)

-- the end means all that is left to print
module _ (r : Run) (cells : List ℕ) (room : ℕ) where
  last-is : Ready r cells → line_most ≤ room → (n : ℕ) → last_by r cells n ≡ last_of r cells n room
  unfolding last_of
  last-is y h n = cond_no (too_short r (length cells) room) _ _ (ready-enough r cells room y h)

  over-ends : r.over ≡ true → Ends r cells room (stands passed r cells)
  over-ends o = record { passes = refl; fits = omega arith; is-over = o; all = ahead-over r cells [] o }

  line-ends : line_most ≤ room → (n : ℕ) → ahead r cells [] ≡ end_line r.accepted n
      → Ends r cells room (record { check = passed; run = ended r; cells = cells; used = 0; text = end_line r.accepted n })
  line-ends h n e = record { passes = refl; fits = let m = end-most r.accepted n in omega (arith, m, h); is-over = refl; all = e }

  -- an input that ends inside a record, or after one
  pub end_line_lem : Ready r cells → r.over ≡ false → ahead r cells [] ≡ end_line r.accepted (cond (eqb r.filled 0) 0 (number RecordMalformed))
  end_line_lem y o = ahead-on r cells [] o ∙ go r.filled refl
    where
      inside-line : Held (end_at r.replay.settings) (held r cells) → 0 < length (held r cells)
          → printed_after (end_at r.replay.settings) step_of r.replay r.accepted (held r cells ++ []) ≡ end_line r.accepted (number RecordMalformed)
      inside-line (of-short k q) h = left-short (end_at r.replay.settings) (lawful r.replay.settings) step_of r.replay r.accepted (held r cells) k q h
      inside-line (of-unless e q) h = absurd (says r.replay.settings (held r cells) (unless e) q)

      go : (k : ℕ) → r.filled ≡ k → printed_after (end_at r.replay.settings) step_of r.replay r.accepted (held r cells ++ []) ≡ end_line r.accepted (cond (eqb k 0) 0 (number RecordMalformed))
      go zero e =
          ap (λ (j : ℕ). printed_after (end_at r.replay.settings) step_of r.replay r.accepted (take j cells ++ [])) e
          ∙ left-none (end_at r.replay.settings) (lawful r.replay.settings) step_of r.replay r.accepted
      go (suc k) e = rw (ne_eqb (suc k) 0 (λ z. omega arith)) (inside-line (y.waits o) (let l = took r.filled cells y.inside in omega (arith, l, e)))

  -- an input that can't be read on
  pub fail-line : Ready r cells → line_most ≤ room → r.over ≡ false → (fail_of r cells room).text ≡ end_line r.accepted (number RecordMalformed)
  unfolding last_by
  fail-line y h o = ap (λ (a : After). a.text) (sym (last-is y h (number RecordMalformed)) ∙ sym (cond_no r.over _ _ o))

  pub finishes : Ready r cells → line_most ≤ room → Ends r cells room (finish_of r cells room)
  finishes y h = subst (Ends r cells room) (last-is y h (cond (eqb r.filled 0) 0 (number RecordMalformed))) (by r.over refl)
    where
      by : (b : Bool) → r.over ≡ b → Ends r cells room (last_by r cells (cond (eqb r.filled 0) 0 (number RecordMalformed)))
      by true o = unfold last_by in (subst (Ends r cells room) (cond_yes r.over _ _ o) (over-ends o))
      by false o = unfold last_by in (subst (Ends r cells room) (cond_no r.over _ _ o) (line-ends h (cond (eqb r.filled 0) 0 (number RecordMalformed)) (end_line_lem y o)))

module _ (r : Run) (cells out : List ℕ) (n : ℕ) (is-n : n ≡ cond (eqb r.filled 0) 0 (number RecordMalformed)) (f : Result Fed Refusal) (out' : List ℕ)
    (q : (f ≡ fed_of (last_of r cells n (length out))) × (out' ≡ written (last_of r cells n (length out)).text out)) where
  pub finished : (f ≡ fed_of (finish_of r cells (length out)))
      × ((out' ≡ written (finish_of r cells (length out)).text out) × (Ready r cells → line_most ≤ length out → Ends r cells (length out) (finish_of r cells (length out))))
  finished = (
    q.0 ∙ ap (λ (k : ℕ). fed_of (last_of r cells k (length out))) is-n,
    (q.1 ∙ ap (λ (k : ℕ). written (last_of r cells k (length out)).text out) is-n, finishes r cells (length out)),
  )

module _ (k : ℕ) where
  pub filled_none : k ≡ 0 → 0 ≡ cond (eqb k 0) 0 (number RecordMalformed)
  filled_none e = rw (eq-eqb k 0 e)

  pub filled-some : (k ≡ 0 → ⊥) → (n : ℕ) → n ≡ number RecordMalformed → n ≡ cond (eqb k 0) 0 (number RecordMalformed)
  filled-some e n q = rw (ne_eqb k 0 e) q
