-- The lines of a piece, by the turns of the loop that puts them; and pieces one after another.
-- Assumes nothing.
use mathlib.Core.Path.{◌≡◌, refl, sym, ap, ◌∙◌, subst}
use mathlib.Core.Bool.{Bool, true, false, cond}
use mathlib.Core.List.{List, [], ◌∷◌, ◌++◌, append_assoc, append-nil}
use Prim.Native.Nat.{ℕ, suc, ◌+◌, ◌-◌, ◌/◌, ◌%◌, ◌≤◌, ◌<◌}
use native.Mathlib.Nat.{zero-add}
use native.Mathlib.Omega.{arith}
use lib.Dec.{ltb}
use lib.ListN.{length, drop, set, length-append}
use lib.Seq.{sets, sets-eq}
use borrow.Author.Tests.{lt-ltb, le-ltb, ltb-true, ltb-false}
use Rattle.std.specs.Prelude.{Result, Ok, Err, IfOk, Option, Some, None}
use Rattle.codec.specs.declared.refusal.Refusal.{Refusal}
use Rattle.codec.specs.declared.refusal.Refusal.TheVariants.{OutputShort}
use Rattle.codec.specs.Decimal.{digits, newline}
use Rattle.codec.specs.Output.{written}
use Rattle.codec.specs.Put.{Put}
use Rattle.codec.proofs.Laws.Output.{sets-append}
use Rattle.codec.proofs.Laws.Decimal.{digits-short}
use Rattle.legal.specs.declared.next.Votes.{Votes}
use Rattle.legal.specs.declared.listing.Filled.{Filled}
use Rattle.legal.specs.Legal.{number, total, first_of, votes}
use Rattle.legal.specs.Search.{legal_from, first_from, votes_at, position_of}
use Rattle.legal.specs.Listing.{line_of, lines_of, listing, line_most, rest_of, fitting, left_over, text_of, next_of, fill_of, pieces, reached, Pieces, GoesOn}
use Rattle.legal.proofs.Laws.Next.{ended, after_first, from_first, at_least, from_zero, Head, head}

-- ---- a line

-- the digits, and the newline behind them
pub line-put : (n at k : ℕ) (before between after : List ℕ) → n < total → k ≡ length (digits 10 n) → between ≡ sets before at (digits 10 n) → after ≡ set between (at + k) 10
    → Put (line_of n) line_most at (at + k + 1) before after
unfolding line_of
line-put n at k before between after h e p q =
    let l = length-append (digits 10 n) newline in
    record {
      is = q ∙ ap (λ (c : List ℕ). set c (at + k) 10) p ∙ ap (λ (j : ℕ). set (sets before at (digits 10 n)) (at + j) 10) e ∙ sym (sets-append (digits 10 n) newline before at);
      ends = omega (arith, e, l);
      small = omega (arith, e, digits-short 10 7 n (omega arith));
    }

line-long : (n : ℕ) → 1 ≤ length (line_of n)
unfolding line_of
line-long n = omega (arith, length-append (digits 10 n) newline)

-- ---- a list whose lines are put: nothing is left or no line has room, or one line and the others

fits-none : (room : ℕ) (ns : List ℕ) → room < line_most → fitting room ns ≡ []
unfolding fitting
fits-none room [] h = refl
fits-none room (n ∷ ns) h = rw (lt-ltb room line_most h)

left-all : (room : ℕ) (ns : List ℕ) → room < line_most → left_over room ns ≡ ns
unfolding left_over
left-all room [] h = refl
left-all room (n ∷ ns) h = rw (lt-ltb room line_most h)

module _ (room n : ℕ) (ns : List ℕ) (h : line_most ≤ room) where
  fits_one : fitting room (n ∷ ns) ≡ n ∷ fitting (room - length (line_of n)) ns
  unfolding fitting
  fits_one = rw (le-ltb room line_most h)

  left_one : left_over room (n ∷ ns) ≡ left_over (room - length (line_of n)) ns
  unfolding left_over
  left_one = rw (le-ltb room line_most h)

-- ---- the loop: what is left gives what the whole gives

abbrev lines_left : ℕ → ℕ → List ℕ
lines_left room n = lines_of (fitting room (legal_from n))

pub record Filling (before : List ℕ) (n₀ : ℕ) (cells : List ℕ) (n wrote : ℕ) : Type 0 where
  pub long : length cells ≡ length before
  pub inside : wrote ≤ length before
  pub text : sets cells wrote (lines_left (length before - wrote) n) ≡ sets before 0 (lines_left (length before) n₀)
  pub size : wrote + length (lines_left (length before - wrote) n) ≡ length (lines_left (length before) n₀)
  pub left : left_over (length before - wrote) (legal_from n) ≡ left_over (length before) (legal_from n₀)
  pub first : Head n n

pub filling-starts : (before : List ℕ) (n : ℕ) → Head n n → Filling before n before n 0
filling-starts before n h =
    let z : length before - 0 ≡ length before = omega arith in
    record {
      long = refl;
      inside = omega arith;
      text = rw z;
      size = rw z (omega arith);
      left = rw z;
      first = h;
    }

-- a number is the first from itself on, where it was found
pub head-again : (m n : ℕ) → n ≡ first_from m → Head n n
head-again m n e =
    let h = subst (Head m) (sym e) (head m) in
    record { same = refl; first = ap first_of h.same ∙ h.first; goes_on = h.goes_on }

module _ (before : List ℕ) (n₀ : ℕ) (cells : List ℕ) (n wrote : ℕ) (f : Filling before n₀ cells n wrote) where
  -- a line more
  module _ (h : n < total) (room : line_most ≤ length cells - wrote) (wrote' : ℕ) (cells' : List ℕ) (p : Put (line_of n) line_most wrote wrote' cells cells') where
    pub filling-less : length cells' ≡ length cells → length cells' - wrote' < length cells - wrote
    filling-less e = omega (arith, e, p.ends, line-long n, p.small, room)

    module _ (n' : ℕ) (q : n' ≡ first_from (n + 1)) where
      same_rest : legal_from n' ≡ legal_from (suc n)
      same_rest = let s : n + 1 ≡ suc n = omega arith in (subst (Head (n + 1)) (sym q) (head (n + 1))).same ∙ ap legal_from s

      wide : line_most ≤ length before - wrote
      wide = omega (arith, room, f.long)

      less : length before - wrote - length (line_of n) ≡ length before - wrote'
      less = omega (arith, p.ends)

      fits_next : fitting (length before - wrote) (legal_from n) ≡ n ∷ fitting (length before - wrote') (legal_from n')
      fits_next =
          ap (fitting (length before - wrote)) (f.first.goes_on h)
          ∙ fits_one (length before - wrote) n (legal_from (suc n)) wide
          ∙ ap (λ (k : ℕ). n ∷ fitting k (legal_from (suc n))) less
          ∙ ap (λ (l : List ℕ). n ∷ fitting (length before - wrote') l) (sym same_rest)

      left-next : left_over (length before - wrote) (legal_from n) ≡ left_over (length before - wrote') (legal_from n')
      left-next =
          ap (left_over (length before - wrote)) (f.first.goes_on h)
          ∙ left_one (length before - wrote) n (legal_from (suc n)) wide
          ∙ ap (λ (k : ℕ). left_over k (legal_from (suc n))) less
          ∙ ap (left_over (length before - wrote')) (sym same_rest)

      lines_next : lines_left (length before - wrote) n ≡ line_of n ++ lines_left (length before - wrote') n'
      unfolding lines_of
      lines_next = ap lines_of fits_next

      pub filling-on : length cells' ≡ length cells → Filling before n₀ cells' n' wrote'
      filling-on e =
          let more = lines_left (length before - wrote') n' in
          record {
            long = e ∙ f.long;
            inside = omega (arith, p.small, room, f.long);
            text =
                ap (λ (c : List ℕ). sets c wrote' more) p.is
                ∙ ap (λ (k : ℕ). sets (sets cells wrote (line_of n)) k more) p.ends
                ∙ sym (sets-append (line_of n) more cells wrote)
                ∙ ap (sets cells wrote) (sym lines_next)
                ∙ f.text;
            size = omega (arith, p.ends, f.size, ap length lines_next, length-append (line_of n) more);
            left = sym left-next ∙ f.left;
            first = head-again (n + 1) n' q;
          }

  -- the end: nothing is left, or no line has room
  module _ (e : fitting (length before - wrote) (legal_from n) ≡ []) (g : left_over (length before - wrote) (legal_from n) ≡ legal_from n) where
    no_lines : lines_left (length before - wrote) n ≡ []
    unfolding lines_of
    no_lines = ap lines_of e

    ends-text : cells ≡ sets before 0 (lines_left (length before) n₀)
    ends-text = sym (ap (sets cells wrote) no_lines) ∙ f.text

    ends-size : wrote ≡ length (lines_left (length before) n₀)
    ends-size = omega (arith, f.size, ap length no_lines)

    ends_next : votes_at n ≡ first_of (left_over (length before) (legal_from n₀))
    ends_next = sym f.first.first ∙ ap first_of (sym g ∙ f.left)

-- ---- a position, and what is left from it on

pub rest-is : (at : Option Votes) → rest_of at ≡ legal_from (position_of at)
unfolding rest_of position_of
rest-is None = sym (ended total (omega arith))
rest-is (Some v) = at_least (number v.0 v.1 v.2)

-- the numbers that are left are those from the first of them on
left-rest : (ns : List ℕ) (room n : ℕ) → legal_from n ≡ ns → rest_of (first_of (left_over room ns)) ≡ left_over room ns
unfolding left_over rest_of first_of
left-rest [] room n e = refl
left-rest (q ∷ ns) room n e = go (ltb room line_most) (left-rest ns (room - length (line_of q)) (suc q) (sym (after_first n q ns e)))
  where
    go : (t : Bool) → rest_of (first_of (left_over (room - length (line_of q)) ns)) ≡ left_over (room - length (line_of q)) ns
        → rest_of (first_of (cond t (q ∷ ns) (left_over (room - length (line_of q)) ns))) ≡ cond t (q ∷ ns) (left_over (room - length (line_of q)) ns)
    go true ih =
        let s : number (q / 65536) (q / 256 % 256) (q % 256) ≡ q = omega arith in
        at_least (number (q / 65536) (q / 256 % 256) (q % 256)) ∙ ap legal_from s ∙ from_first n q ns e
    go false ih = ih

-- a call: from a position on, in a buffer of a length
module _ (at : Option Votes) (room : ℕ) where
  module _ (h : line_most ≤ room) where
    next-wide : next_of at room ≡ first_of (left_over room (rest_of at))
    unfolding next_of
    next-wide = rw (le-ltb room line_most h)

    rest-wide : rest_of (next_of at room) ≡ left_over room (rest_of at)
    rest-wide = ap rest_of next-wide ∙ left-rest (rest_of at) room (position_of at) (sym (rest-is at))

  next-narrow : room < line_most → next_of at room ≡ at
  unfolding next_of
  next-narrow h = rw (lt-ltb room line_most h)

  text-narrow : room < line_most → text_of at room ≡ []
  unfolding text_of lines_of
  text-narrow h = ap lines_of (fits-none room (rest_of at) h)

-- the lines that are put, and those of the numbers that are left
fits-left : (ns : List ℕ) (room : ℕ) → lines_of (fitting room ns) ++ lines_of (left_over room ns) ≡ lines_of ns
unfolding lines_of fitting left_over
fits-left [] room = refl
fits-left (n ∷ ns) room = go (ltb room line_most) (fits-left ns (room - length (line_of n)))
  where
    go : (t : Bool) → lines_of (fitting (room - length (line_of n)) ns) ++ lines_of (left_over (room - length (line_of n)) ns) ≡ lines_of ns
        → lines_of (cond t [] (n ∷ fitting (room - length (line_of n)) ns)) ++ lines_of (cond t (n ∷ ns) (left_over (room - length (line_of n)) ns)) ≡ line_of n ++ lines_of ns
    go true ih = refl
    go false ih =
        append_assoc (line_of n) (lines_of (fitting (room - length (line_of n)) ns)) (lines_of (left_over (room - length (line_of n)) ns))
        ∙ ap (λ (l : List ℕ). line_of n ++ l) ih

pub one_piece : (at : Option Votes) (room : ℕ) → text_of at room ++ lines_of (rest_of (next_of at room)) ≡ lines_of (rest_of at)
unfolding text_of
one_piece at room = go (ltb room line_most) refl
  where
    go : (t : Bool) → ltb room line_most ≡ t → text_of at room ++ lines_of (rest_of (next_of at room)) ≡ lines_of (rest_of at)
    go true e = let h = ltb-true room line_most e in rw (text-narrow at room h, next-narrow at room h)
    go false e =
        ap (λ (l : List ℕ). text_of at room ++ lines_of l) (rest-wide at room (ltb-false room line_most e)) ∙ fits-left (rest_of at) room

all-pieces : (rooms : List ℕ) (at : Option Votes) → pieces at rooms ++ lines_of (rest_of (reached at rooms)) ≡ lines_of (rest_of at)
unfolding pieces reached
all-pieces [] at = refl
all-pieces (room ∷ rooms) at =
    append_assoc (text_of at room) (pieces (next_of at room) rooms) (lines_of (rest_of (reached (next_of at room) rooms)))
    ∙ ap (λ (l : List ℕ). text_of at room ++ l) (all-pieces rooms (next_of at room))
    ∙ one_piece at room

-- from the beginning
pub begins : lines_of (rest_of (Some (votes 0 0 0))) ≡ listing
unfolding listing position_of
begins = ap lines_of (rest-is (Some (votes 0 0 0)) ∙ from_zero)

pub pieces-all : Pieces (Some (votes 0 0 0))
unfolding rest_of lines_of
pieces-all = record {
  so_far = λ rooms. all-pieces rooms (Some (votes 0 0 0)) ∙ begins;
  whole = λ rooms e.
      sym (append-nil (pieces (Some (votes 0 0 0)) rooms))
      ∙ ap (λ (v : Option Votes). pieces (Some (votes 0 0 0)) rooms ++ lines_of (rest_of v)) (sym e)
      ∙ all-pieces rooms (Some (votes 0 0 0))
      ∙ begins;
}

-- a call whose buffer is long enough leaves fewer numbers
left_less : (ns : List ℕ) (room : ℕ) → length (left_over room ns) ≤ length ns
unfolding left_over
left_less [] room = omega arith
left_less (n ∷ ns) room = go (ltb room line_most) (left_less ns (room - length (line_of n)))
  where
    go : (t : Bool) → length (left_over (room - length (line_of n)) ns) ≤ length ns → length (cond t (n ∷ ns) (left_over (room - length (line_of n)) ns)) ≤ suc (length ns)
    go true ih = omega arith
    go false ih = omega (arith, ih)

left-fewer : (ns : List ℕ) (room : ℕ) → line_most ≤ room → (first_of (left_over room ns) ≡ None → ⊥) → length (left_over room ns) < length ns
unfolding first_of left_over
left-fewer [] room h f = absurd (f refl)
left-fewer (n ∷ ns) room h f = omega (arith, ap length (left_one room n ns h), left_less ns (room - length (line_of n)))

pub goes_on : (at : Option Votes) (room : ℕ) → GoesOn at room
goes_on at room h f =
    let l = left-fewer (rest_of at) room h (λ e. f (next-wide at room h ∙ e)) in
    omega (arith, l, ap length (rest-wide at room h))

-- ---- what a call answers

module _ (at : Option Votes) (before : List ℕ) where
  abbrev Answers : Result Filled Refusal → List ℕ → Type 0
  Answers r after =
      (r ≡ fill_of at (length before))
      × ((after ≡ written (text_of at (length before)) before)
      × ((IfOk r (λ filled. filled.wrote ≤ length before)) × GoesOn at (length before)))

  -- no line might have room
  pub too_short : length before < line_most → Answers (Err OutputShort) before
  unfolding fill_of
  too_short h =
      let e = text-narrow at (length before) h in (
        rw (lt-ltb (length before) line_most h),
        (rw e, (tt, goes_on at (length before))),
      )

  -- the loop's end
  module _ (n₀ : ℕ) (q : n₀ ≡ first_from (position_of at)) (wide : line_most ≤ length before) (cells : List ℕ) (n wrote : ℕ) (f : Filling before n₀ cells n wrote) where
    rest₀ : legal_from n₀ ≡ rest_of at
    rest₀ = (subst (Head (position_of at)) (sym q) (head (position_of at))).same ∙ sym (rest-is at)

    text₀ : lines_left (length before) n₀ ≡ text_of at (length before)
    unfolding text_of
    text₀ = ap (λ (l : List ℕ). lines_of (fitting (length before) l)) rest₀

    module _ (e : fitting (length before - wrote) (legal_from n) ≡ []) (g : left_over (length before - wrote) (legal_from n) ≡ legal_from n) where
      wrote-is : wrote ≡ length (text_of at (length before))
      wrote-is = ends-size before n₀ cells n wrote f e g ∙ ap length text₀

      next-is : votes_at n ≡ next_of at (length before)
      next-is =
          ends_next before n₀ cells n wrote f e g
          ∙ ap (λ (l : List ℕ). first_of (left_over (length before) l)) rest₀
          ∙ sym (next-wide at (length before) wide)

      answer-is : Ok (record { next = votes_at n; wrote = wrote }) ≡ fill_of at (length before)
      unfolding fill_of
      answer-is = rw (le-ltb (length before) line_most wide, next-is, wrote-is)

      fits : 0 + length (text_of at (length before)) ≤ length before
      fits = omega (arith, wrote-is, f.inside)

      cells_are : cells ≡ written (text_of at (length before)) before
      cells_are =
          ends-text before n₀ cells n wrote f e g
          ∙ ap (sets before 0) text₀
          ∙ sets-eq (text_of at (length before)) before 0 fits
          ∙ ap (λ (k : ℕ). text_of at (length before) ++ drop k before) (zero-add (length (text_of at (length before))))

      answers : (r : Filled) → r ≡ record { next = votes_at n; wrote = wrote } → Answers (Ok r) cells
      answers r t = (ap {B = Result Filled Refusal} (λ (x : Filled). Ok x) t ∙ answer-is, (cells_are, (omega (arith, ap (λ (x : Filled). x.wrote) t, f.inside), goes_on at (length before))))

    pub filled-all : total ≤ n → (r : Filled) → r ≡ record { next = votes_at n; wrote = wrote } → Answers (Ok r) cells
    unfolding fitting left_over
    filled-all h =
        let e = ended n h in
        answers (ap (fitting (length before - wrote)) e) (ap (left_over (length before - wrote)) e ∙ sym e)

    pub filled-up : length cells - wrote < line_most → (r : Filled) → r ≡ record { next = votes_at n; wrote = wrote } → Answers (Ok r) cells
    filled-up h =
        let s : length before - wrote < line_most = omega (arith, h, f.long) in
        answers (fits-none (length before - wrote) (legal_from n) s) (left-all (length before - wrote) (legal_from n) s)
