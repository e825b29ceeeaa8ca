-- A window as a number, and calls one after another on windows and cells. Assumes nothing.
use mathlib.Core.Path.{◌≡◌, refl, sym, ap, ◌∙◌, subst}
use mathlib.Core.List.{List, [], ◌∷◌}
use Prim.Native.Nat.{ℕ, zero, suc, ◌+◌, ◌^◌, ◌≤◌, ◌<◌}
use native.Mathlib.Nat.{mod-eq_of_lt}
use native.Mathlib.Omega.{arith}
use borrow.Author.Tests.{ltb-true, lt-ltb, le-ltb}
use lib.Dec.{ltb, eqb}
use lib.ListN.{length, get_or}
use Rattle.codec.specs.Signed.{bits_of, modulo}
use Rattle.voting.specs.Common.{Each, Bytes}
use Rattle.voting.proofs.Laws.Tests.{by-test}
use Rattle.support.specs.declared.window.Window.{Window}
use Rattle.std.specs.Prelude.{Result, Ok, Err}
use Rattle.codec.specs.declared.refusal.Refusal.{Refusal}
use Rattle.codec.specs.Check.{Check, passed}
use Rattle.codec.specs.Refusal.{number}
use Rattle.support.specs.Support.{IsHeader}
use Rattle.support.specs.Window.{Left, left, empty, check_new, new_by, new_of, more_held, place_after, onward, check_put, put_by, put_of}
use Rattle.support.specs.Kept.{Held, keeps, after, Kept, SupportKept}
use Rattle.support.proofs.Laws.Calls.{new-room, put-room}
use Rattle.exports.proofs.Laws.{number-some, number-small}
use Rattle.wire.specs.Numbers.{votes_at}
use Rattle.exports.specs.Reply.{Reply, reply, minus, answer_of}
use Rattle.exports.specs.Windows.{window_number, window_at, window_answer, window_reply, keeping, put_on, votes_of_each, number_window, KeptThrough}

-- ---- a window as a number

-- three numbers of 16 bits
abbrev Fits : Window → Type 0
Fits w = (w.length < 2 ^ 16) × (w.held < 2 ^ 16) × (w.oldest < 2 ^ 16)

same-window : (u w : Window) → u.length ≡ w.length → u.held ≡ w.held → u.oldest ≡ w.oldest → u ≡ w
same-window u w l h o = ap (λ (n : ℕ). record { length = n; held = u.held; oldest = u.oldest }) l ∙ ap (λ (n : ℕ). record { length = w.length; held = n; oldest = u.oldest }) h ∙ ap (λ (n : ℕ). record { length = w.length; held = w.held; oldest = n }) o

number-back : (w : Window) → Fits w → window_at (window_number w) ≡ w
unfolding window_at window_number
number-back w f =
    let length-low = f.0 in
    let held-low = f.1 in
    let oldest-low = f.2 in
    same-window (window_at (window_number w)) w (omega arith) (omega arith) (omega arith)

number-low : (w : Window) → Fits w → window_number w < 2 ^ 63
unfolding window_number
number-low w f =
    let length-low = f.0 in
    let held-low = f.1 in
    let oldest-low = f.2 in
    omega arith

minus-high : (n : ℕ) → (n ≡ 0 → ⊥) → n ≤ 255 → 2 ^ 63 ≤ minus n
unfolding minus bits_of modulo
minus-high zero d l = absurd (d refl)
minus-high (suc e) d l = let h : e < 2 ^ 64 = omega arith in rw (mod-eq_of_lt h) (omega arith)

refused-high : (e : Refusal) → 2 ^ 63 ≤ minus (number e)
refused-high e = minus-high (number e) (number-some e) (number-small e)

-- ---- an answer

module _ {x : Result Window Refusal} where
  pub answer-refused : {e : Refusal} → Err e ≡ x → {n r : ℕ} → n ≡ number e → r ≡ minus n → r ≡ window_answer x
  unfolding answer_of
  answer-refused q p m = rw (← q, ← p) m

  pub answer-window : {w : Window} → Ok w ≡ x → {r : ℕ} → r ≡ window_number w → r ≡ window_answer x
  unfolding answer_of
  answer-window q p = rw (← q) p

module _ (a : Result Window Refusal) (cells : List ℕ) (r : ℕ) (is-r : r ≡ window_answer a) where
  pub reply-is : (x : Left) → left a cells ≡ x → reply r cells ≡ window_reply x
  unfolding window_reply
  reply-is x q = rw (← q, is-r)

  pub put-reply : (w u : Window) → w ≡ u → (v votes : List ℕ) → v ≡ votes → (before : List ℕ) → left a cells ≡ put_of w before v → reply r cells ≡ window_reply (put_of u before votes)
  put-reply w u e v votes f before q = reply-is (put_of u before votes) (rw (← e, ← f) q)

-- ---- a header

fits-onward : (w : Window) → Fits w → w.oldest < w.length → Fits (onward w)
unfolding onward more_held place_after
fits-onward w f l =
    let length-low = f.0 in
    let held-low = f.1 in (
      length-low,
      by-test (ltb w.held w.length) (λ t. rw t (omega (arith, ltb-true))) (λ t. rw t held-low),
      by-test (eqb (w.oldest + 1) w.length) (λ t. rw t (omega arith)) (λ t. rw t (omega arith)),
    )

module _ (w : Window) (fits : Fits w) (cells votes : List ℕ) where
  -- where it enters, the next window fits; where it is refused, the window stays
  fits-put : Fits (keeps w (put_of w cells votes)).window
  unfolding put_of put_by
  fits-put = go (check_put w (length cells) votes) refl
    where
      go : (c : Check) → check_put w (length cells) votes ≡ c → Fits (keeps w (put_by c w cells votes)).window
      go (Ok _) q = fits-onward w fits (put-room w (length cells) votes q).place
      go (Err e) q = fits

  keeps-put : keeping (window_number w) (window_reply (put_of w cells votes)) ≡ reply (window_number (keeps w (put_of w cells votes)).window) (keeps w (put_of w cells votes)).cells
  unfolding keeping window_reply answer_of put_of put_by
  keeps-put = go (check_put w (length cells) votes) refl
    where
      go : (c : Check) → check_put w (length cells) votes ≡ c → keeping (window_number w) (window_reply (put_by c w cells votes)) ≡ reply (window_number (keeps w (put_by c w cells votes)).window) (keeps w (put_by c w cells votes)).cells
      go (Ok _) q = rw (lt-ltb (window_number (onward w)) (2 ^ 63) (number-low (onward w) (fits-onward w fits (put-room w (length cells) votes q).place)))
      go (Err e) q = rw (le-ltb (minus (number e)) (2 ^ 63) (refused-high e))

-- ---- headers one after another

on-after : (h : Held) → Fits h.window → (headers : List (List ℕ)) → put_on (reply (window_number h.window) h.cells) headers ≡ reply (window_number (after h (votes_of_each headers)).window) (after h (votes_of_each headers)).cells
unfolding put_on votes_of_each after
on-after h f [] = refl
on-after h f (votes ∷ headers) =
    let w = h.window in
    let v = votes_at votes 0 in
    ap (λ (u : Window). put_on (keeping (window_number w) (window_reply (put_of u h.cells v))) headers) (number-back w f)
    ∙ ap (λ (y : Reply). put_on y headers) (keeps-put w f h.cells v)
    ∙ on-after (keeps w (put_of w h.cells v)) (fits-put w f h.cells v) headers

fits_after : (h : Held) → Fits h.window → (headers : List (List ℕ)) → Fits (after h headers).window
unfolding after
fits_after h f [] = f
fits_after h f (votes ∷ headers) = fits_after (keeps h.window (put_of h.window h.cells votes)) (fits-put h.window f h.cells votes) headers

byte_at : (votes : List ℕ) (k : ℕ) → Bytes votes → get_or votes k 0 < 256
byte_at [] k e = omega arith
byte_at (b ∷ votes) zero e = e.0
byte_at (b ∷ votes) (suc k) e = byte_at votes k e.1

headers-of : (headers : List (List ℕ)) → Each Bytes headers → Each IsHeader (votes_of_each headers)
unfolding votes_of_each
headers-of [] e = tt
headers-of (votes ∷ headers) e = ((refl, (byte_at votes 0 e.0, (byte_at votes 1 e.0, (byte_at votes 2 e.0, tt)))), headers-of headers e.1)

module _ (n : ℕ) (h : Held) (fits : Fits h.window) (kept : (headers : List (List ℕ)) → Each IsHeader headers → Kept n headers (after h headers)) where
  kept_on : (headers : List (List ℕ)) → Each Bytes headers → Kept n (votes_of_each headers) (number_window (put_on (reply (window_number h.window) h.cells) headers))
  unfolding number_window
  kept_on headers e =
      let vs = votes_of_each headers in
      let k = kept vs (headers-of headers e) in
      rw (on-after h fits headers, number-back (after h vs).window (fits_after h fits vs)) (record { supports = k.supports; held = k.held })

pub kept-through : (n : ℕ) (cells : List ℕ) (a : Result Window Refusal) (after : List ℕ) (r : ℕ) → r ≡ window_answer a → left a after ≡ new_of n cells → SupportKept n (left a after) → KeptThrough n r after
unfolding new_of new_by answer_of
kept-through n cells a after r e is kept =
    rw e (subst (λ (y : Left). SupportKept n y → KeptThrough n (window_answer y.answer) y.cells) (sym is) (go (check_new n (length cells)) refl) kept)
  where
    go : (c : Check) → check_new n (length cells) ≡ c → SupportKept n (new_by c n cells) → KeptThrough n (window_answer (new_by c n cells).answer) (new_by c n cells).cells
    go (Ok _) q k =
        let most = (new-room n (length cells) q).most in
        λ l. kept_on n (record { window = empty n; cells = (new_by passed n cells).cells }) (omega arith, omega arith, omega arith) (k (empty n) refl)
    go (Err e) q k = λ l. let h = refused-high e in absurd (omega arith)
