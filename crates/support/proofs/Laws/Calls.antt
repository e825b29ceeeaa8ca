-- The refusals of the calls, and what the calls leave, refused or not.
-- Assumes nothing.
use Rattle.std.proofs.Common.{◌≡◌, ℕ, ◌+◌, ◌%◌, ◌<◌, ◌≤◌, Bool, true, false, cond, ◌&&◌, eqb, ltb, leb, List, [], ◌∷◌, ◌++◌, length, get_or, drop, set, replicate, sym, refl, ap, ◌∙◌, arith, ltb-true, le-ltb, lt-ltb, eq-eqb, ne_eqb, eqb-true, le-leb, leb-true, is_le, is_lt, nat_cmp}
use lib.Seq.{set-get_or}
use Rattle.std.proofs.lemmas.Bool.Decides.{nat_tests}
use mir.Val.{bool_byte}
use mathlib.Core.Bool.{not}
use Prim.Native.Nat.{◌-◌, ◌*◌}
use Rattle.std.specs.Prelude.{Result, Ok, Err, is_err, OnErr}
use Rattle.std.specs.Result.{result_and, result_unwrap_or}
use Rattle.codec.specs.declared.refusal.Refusal.{Refusal}
use Rattle.codec.specs.declared.refusal.Refusal.TheVariants.{OutputShort, WindowLengthOutside}
use Rattle.codec.specs.Check.{Check, passed}
use Rattle.codec.proofs.Laws.Lists.{all-elements}
use Rattle.counting.specs.Count.{count}
use Rattle.voting.specs.Header.{votes_in, fault_in, check_votes, check_header_votes}
use Rattle.voting.proofs.Laws.Tests.{both, and-stop, and-pass, and-passed}
use Rattle.support.specs.declared.window.Window.{Window}
use Rattle.support.specs.Window.{length_most, cell_of, left, check_room, empty, check_new, new_by, new_of, made, added, one_more, one_less, replaced, entered, more_held, place_after, onward, check_put, put_by, put_of, Closed}

-- ---- the cells

added_is : (cells : List ℕ) (id n x : ℕ) → x ≡ cond (eqb id 0) (get_or cells id 0) ((get_or cells id 0 + n) % 65536) → set cells id x ≡ added cells id n
unfolding added
added_is cells id n x e = rw e (go (eqb id 0))
  where
    go : (t : Bool) → set cells id (cond t (get_or cells id 0) ((get_or cells id 0 + n) % 65536)) ≡ cond t cells (set cells id ((get_or cells id 0 + n) % 65536))
    go true = set-get_or cells id 0
    go false = refl

-- one less and one more, of no vote none; how many are taken off is read from `one_less`
pub left_is : (cells : List ℕ) (id i b : ℕ) → i ≡ id → get_or cells i 0 < 65536 → b ≡ bool_byte (not (eqb id 0)) * ((65536 - one_less) % 65536) → set cells i ((get_or cells i 0 + (65536 - b)) % 65536) ≡ added cells id one_less
left_is cells id i b p f e = rw p (added_is cells id one_less _ (go (eqb id 0) e))
  where
    go : (t : Bool) → b ≡ bool_byte (not t) * ((65536 - one_less) % 65536) → (get_or cells id 0 + (65536 - b)) % 65536 ≡ cond t (get_or cells id 0) ((get_or cells id 0 + one_less) % 65536)
    go true e = let h : get_or cells id 0 < 65536 = rw p at f in omega arith
    go false e = omega arith

pub joined_is : (cells : List ℕ) (id i b : ℕ) → i ≡ id → get_or cells i 0 < 65536 → b ≡ bool_byte (not (eqb id 0)) → set cells i ((get_or cells i 0 + b) % 65536) ≡ added cells id one_more
joined_is cells id i b p f e = rw p (added_is cells id one_more _ (go (eqb id 0) e))
  where
    go : (t : Bool) → b ≡ bool_byte (not t) → (get_or cells id 0 + b) % 65536 ≡ cond t (get_or cells id 0) ((get_or cells id 0 + one_more) % 65536)
    go true e = let h : get_or cells id 0 < 65536 = rw p at f in omega arith
    go false e = omega arith

-- no byte enters and none leaves
replaced-none : (cells : List ℕ) (at id : ℕ) → id ≡ 0 → get_or cells at 0 ≡ 0 → replaced cells at id ≡ cells
unfolding replaced added
replaced-none cells at id e f = rw (e, f) (ap (set cells at) (sym f) ∙ set-get_or cells at 0)

pub replaced-is : (cells : List ℕ) (at id i : ℕ) (a b : List ℕ) → i ≡ id → a ≡ added cells (get_or cells at 0 % 256) one_less → b ≡ added (set a at i) id one_more → b ≡ replaced cells at id
unfolding replaced
replaced-is cells at id i a b p e f = rw (p, e) at f

pub entered-is : (cells : List ℕ) (at : ℕ) (votes a b c : List ℕ) → a ≡ replaced cells at (get_or votes 0 0) → b ≡ replaced a (at + 1) (get_or votes 1 0) → c ≡ replaced b (at + 2) (get_or votes 2 0) → c ≡ entered cells at votes
unfolding entered
entered-is cells at votes a b c e f g = rw (f, e) at g

abbrev all_zero : ℕ → ℕ → ℕ → Bool
all_zero a b c = eqb a 0 && eqb b 0 && eqb c 0

all-zero : (a b c : ℕ) → all_zero a b c ≡ true → (a ≡ 0) × (b ≡ 0) × (c ≡ 0)
all-zero a b c e =
    let p = both (eqb a 0 && eqb b 0) (eqb c 0) e in
    let q = both (eqb a 0) (eqb b 0) p.0 in
    (eqb-true a 0 q.0, eqb-true b 0 q.1, eqb-true c 0 p.1)

pub entered-none : (cells : List ℕ) (at : ℕ) (votes : List ℕ) (p q : Bool) → p ≡ all_zero (get_or votes 0 0) (get_or votes 1 0) (get_or votes 2 0) → q ≡ all_zero (get_or cells at 0) (get_or cells (at + 1) 0) (get_or cells (at + 2) 0) → p && q ≡ true → cells ≡ entered cells at votes
unfolding entered
entered-none cells at votes p q is-p is-q e =
    let t = both p q e in
    let none = all-zero (get_or votes 0 0) (get_or votes 1 0) (get_or votes 2 0) (sym is-p ∙ t.0) in
    let bytes = all-zero (get_or cells at 0) (get_or cells (at + 1) 0) (get_or cells (at + 2) 0) (sym is-q ∙ t.1) in
    sym
    (rw (
      replaced-none cells at (get_or votes 0 0) none.0 bytes.0,
      replaced-none cells (at + 1) (get_or votes 1 0) none.1 bytes.1,
      replaced-none cells (at + 2) (get_or votes 2 0) none.2 bytes.2,
    ))

-- a header without votes is legal
pub no-votes-legal : check_header_votes (0 ∷ 0 ∷ 0 ∷ []) ≡ passed
unfolding check_header_votes check_votes votes_in fault_in count
no-votes-legal = refl

pub voteless-legal : (votes : List ℕ) → length votes ≡ 3 → (p : Bool) → p ≡ all_zero (get_or votes 0 0) (get_or votes 1 0) (get_or votes 2 0) → p ≡ true → passed ≡ check_header_votes votes
voteless-legal votes l p is-p t =
    let none = all-zero (get_or votes 0 0) (get_or votes 1 0) (get_or votes 2 0) (sym is-p ∙ t) in
    sym (ap check_header_votes (sym (all-elements 3 votes l)) ∙ rw (none.0, none.1, none.2) no-votes-legal)

-- ---- the window

pub held_more : (held n : ℕ) → held < n → held + 1 ≡ more_held held n
unfolding more_held
held_more held n h = rw (lt-ltb held n h)

pub held_all : (held n : ℕ) → n ≤ held → held ≡ more_held held n
unfolding more_held
held_all held n h = rw (le-ltb held n h)

pub place-first : (place n : ℕ) → place + 1 ≡ n → 0 ≡ place_after place n
unfolding place_after
place-first place n e = rw (eq-eqb (place + 1) n e)

pub place-next : (place n : ℕ) → (place + 1 ≡ n → ⊥) → place + 1 ≡ place_after place n
unfolding place_after
place-next place n e = rw (ne_eqb (place + 1) n e)

pub onward-is : (w : Window) (held oldest : ℕ) → held ≡ more_held w.held w.length → oldest ≡ place_after w.oldest w.length → ◌≡◌ {A = Window} (record { length = w.length; held = held; oldest = oldest }) (onward w)
unfolding onward
onward-is w held oldest e f = rw (e, f)

-- ---- refusals

-- a window, in cells that hold it
pub record Room (w : Window) (room : ℕ) : Type 0 where
  pub place : w.oldest < w.length
  pub most : w.length ≤ length_most
  pub enough : cell_of w.length ≤ room

module _ (w : Window) (room : ℕ) where
  pub room_by : (t : Bool) (n : ℕ) → n ≡ cell_of w.length → (ltb w.oldest w.length && leb w.length length_most && leb n room) ≡ t → cond t passed (Err OutputShort) ≡ check_room w room
  unfolding check_room
  room_by t n e f = rw (← f, e)

  pub room-fine : Room w room → passed ≡ check_room w room
  room-fine r = room_by true (cell_of w.length) refl (rw (lt-ltb w.oldest w.length r.place, le-leb w.length length_most r.most, le-leb (cell_of w.length) room r.enough))

  pub room-is : check_room w room ≡ passed → Room w room
  unfolding check_room
  room-is = go (ltb w.oldest w.length && leb w.length length_most && leb (cell_of w.length) room) refl
    where
      go : (t : Bool) → (ltb w.oldest w.length && leb w.length length_most && leb (cell_of w.length) room) ≡ t → cond t passed (Err OutputShort) ≡ passed → Room w room
      go true q e =
          let a = both (ltb w.oldest w.length && leb w.length length_most) (leb (cell_of w.length) room) q in
          let b = both (ltb w.oldest w.length) (leb w.length length_most) a.0 in
          record { place = ltb-true w.oldest w.length b.0; most = leb-true w.length length_most b.1; enough = leb-true (cell_of w.length) room a.1 }
      go false q e = cc

-- its cells, and the cells of the oldest's place
pub cells-inside : (w : Window) (room size : ℕ) → Room w room → size ≡ cell_of w.length → size ≤ room
cells-inside w room size r e = rw e r.enough

pub place_inside : (w : Window) (room at : ℕ) → Room w room → at ≡ cell_of w.oldest → (256 ≤ at) × (at + 2 < room)
place_inside w room at r e = let p = r.place in let n = r.enough in (omega arith, omega arith)

-- ---- a new window

-- the test of the length
le_is : (a b : ℕ) → leb a b ≡ is_le (nat_cmp a b)
le_is a b = grind (arith, nat_tests)

pub length_most_lem : (n : ℕ) → leb 1 n && leb n length_most ≡ true → n ≤ length_most
length_most_lem n t = leb-true n length_most (both (leb 1 n) (leb n length_most) t).1

pub length-test : (n a b : ℕ) (t x : Bool) → a ≡ 1 → b ≡ length_most → x ≡ false → t ≡ (is_le (nat_cmp a n) && cond x (is_lt (nat_cmp n b)) (is_le (nat_cmp n b))) → leb 1 n && leb n length_most ≡ t
length-test n a b t x p q r e = rw (le_is 1 n, le_is n length_most) (sym (rw (p, q, r) at e))

module _ (n room : ℕ) where
  pub length-inside : leb 1 n && leb n length_most ≡ true → (w : Window) → w ≡ empty n → (r : Check) → r ≡ check_room w room → r ≡ check_new n room
  unfolding check_new
  length-inside t w is r e = rw (t, e, is)

  pub length-outside : leb 1 n && leb n length_most ≡ false → Err WindowLengthOutside ≡ check_new n room
  unfolding check_new
  length-outside t = rw t

  pub new-room : check_new n room ≡ passed → Room (empty n) room
  unfolding check_new
  new-room e = room-is (empty n) room (and-passed _ (check_room (empty n) room) e).1

module _ (n : ℕ) (cells : List ℕ) {r : Check} (is-r : r ≡ check_new n (length cells)) where
  pub new-refused : {e : Refusal} → r ≡ Err e → left (Err e) cells ≡ new_of n cells
  unfolding new_of new_by
  new-refused q = rw (← is-r, q)

  pub new-made : r ≡ passed → (after : List ℕ) → after ≡ replicate (cell_of n) 0 ++ drop (cell_of n) cells → left (Ok (empty n)) after ≡ new_of n cells
  unfolding new_of new_by
  new-made q after f = rw (← is-r, q, f)

-- ---- a header is put

module _ (w : Window) (room : ℕ) (votes : List ℕ) {r : Check} (is-r : r ≡ check_header_votes votes) where
  pub header-stops : {e : Refusal} → r ≡ Err e → Err e ≡ check_put w room votes
  unfolding check_put
  header-stops q = sym (and-stop _ _ (sym is-r ∙ q))

  pub header-passes : r ≡ passed → check_room w room ≡ check_put w room votes
  unfolding check_put
  header-passes q = sym (and-pass _ _ (sym is-r ∙ q))

pub put-room : (w : Window) (room : ℕ) (votes : List ℕ) → check_put w room votes ≡ passed → Room w room
unfolding check_put
put-room w room votes e = room-is w room (and-passed _ (check_room w room) e).1

module _ (w : Window) (cells votes : List ℕ) {r : Check} (is-r : r ≡ check_put w (length cells) votes) where
  pub put_refused : {e : Refusal} → r ≡ Err e → left (Err e) cells ≡ put_of w cells votes
  unfolding put_of put_by
  put_refused q = rw (← is-r, q)

  pub put-enters : r ≡ passed → (v : Window) → v ≡ onward w → (at : ℕ) → at ≡ cell_of w.oldest → (after : List ℕ) → after ≡ entered cells at votes → left (Ok v) after ≡ put_of w cells votes
  unfolding put_of put_by
  put-enters q v f at is_at after g = rw (← is-r, q, f, g, is_at)

-- ---- the window that was made

pub made-is : (r : Result Window Refusal) {none : Window} → ((e : Refusal) → none ≡ made (Err e)) → result_unwrap_or r none ≡ made r
unfolding made
made-is (Ok w) q = refl
made-is (Err e) q = q e

-- refused, it takes no header
pub refused-closed : (r : Result Window Refusal) → OnErr r (Closed (made r))
unfolding made put_of put_by check_put check_room
refused-closed (Ok w) = tt
refused-closed (Err k) = λ cells votes. go cells votes (check_header_votes votes)
  where
    go : (cells votes : List ℕ) (r : Check) → is_err (put_by (result_and r (check_room (made (Err k)) (length cells))) (made (Err k)) cells votes).answer ≡ true
    go cells votes (Ok tt) = refl
    go cells votes (Err e) = refl
