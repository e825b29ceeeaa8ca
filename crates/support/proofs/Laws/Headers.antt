-- The headers of a window: three bytes of the ring each, and what a header that enters does.
-- Assumes nothing.
use Rattle.std.proofs.Common.{◌≡◌, ℕ, zero, suc, ◌+◌, ◌*◌, ◌<◌, ◌≤◌, Bool, true, false, cond, eqb, List, [], ◌∷◌, ◌++◌, length, get_or, take, drop, replicate, sym, refl, ap, ◌∙◌, subst, append_assoc, append-nil, arith, length-append, length-drop, length-take-le, take_at, drop_at, ne_eqb, eqb-true}
use borrow.Author.Tests.{eqb-false}
use lib.ListN.{length-replicate, get_or-replicate, replicate-append-replicate, get_or-append}
use Rattle.counting.specs.Count.{count}
use Rattle.codec.specs.Check.{passed}
use Rattle.voting.specs.Common.{Each, Bytes}
use Rattle.voting.specs.Header.{check_header_votes, votes_for, AllLegal}
use Rattle.voting.specs.Tally.{headers}
use Rattle.voting.proofs.Laws.Tests.{by-test}
use Rattle.voting.proofs.Laws.Tally.{whole-threes, votes-headers}
use Rattle.support.specs.declared.window.Window.{Window}
use Rattle.support.specs.Support.{IsHeader}
use Rattle.support.specs.Window.{length_most, cell_of, empty, replaced, entered, more_held, onward}
use Rattle.support.proofs.Laws.Calls.{no-votes-legal, place-first, place-next, onward-is}
use Rattle.support.proofs.Laws.Ring.{turned_round, counted, Holds, holds-one, each_snoc}

-- three bytes, one after another
module _ (n q : ℕ) (cells : List ℕ) (x y z : ℕ) (bytes : List ℕ) (holds : Holds n q cells (x ∷ y ∷ z ∷ bytes)) (l : q + 2 < n) (m : n < 65535) (a b c : ℕ) (la : a < 256) (lb : b < 256) (lc : c < 256) where
  first-in : Holds n (suc q) (replaced cells (256 + q) a) (y ∷ z ∷ (bytes ++ a ∷ []))
  first-in = holds-one n q cells x (y ∷ z ∷ bytes) holds (omega arith) m a la

  second-in : Holds n (suc (suc q)) (replaced (replaced cells (256 + q) a) (256 + q + 1) b) (z ∷ ((bytes ++ a ∷ []) ++ b ∷ []))
  second-in =
      let e : 256 + suc q ≡ 256 + q + 1 = omega arith in
      subst (λ (p : ℕ). Holds n (suc (suc q)) (replaced (replaced cells (256 + q) a) p b) (z ∷ ((bytes ++ a ∷ []) ++ b ∷ []))) e
      (holds-one n (suc q) (replaced cells (256 + q) a) y (z ∷ (bytes ++ a ∷ [])) first-in (omega arith) m b lb)

  third-in : Holds n (suc (suc (suc q))) (replaced (replaced (replaced cells (256 + q) a) (256 + q + 1) b) (256 + q + 2) c) (((bytes ++ a ∷ []) ++ b ∷ []) ++ c ∷ [])
  third-in =
      let e : 256 + suc (suc q) ≡ 256 + q + 2 = omega arith in
      subst (λ (p : ℕ). Holds n (suc (suc (suc q))) (replaced (replaced (replaced cells (256 + q) a) (256 + q + 1) b) p c) (((bytes ++ a ∷ []) ++ b ∷ []) ++ c ∷ [])) e
      (holds-one n (suc (suc q)) (replaced (replaced cells (256 + q) a) (256 + q + 1) b) z ((bytes ++ a ∷ []) ++ b ∷ []) second-in (omega arith) m c lc)

  holds-three : Holds n (q + 3) (entered cells (256 + q) (a ∷ b ∷ c ∷ [])) (bytes ++ a ∷ b ∷ c ∷ [])
  unfolding entered
  holds-three =
      let e : suc (suc (suc q)) ≡ q + 3 = omega arith in
      let f : ((bytes ++ a ∷ []) ++ b ∷ []) ++ c ∷ [] ≡ bytes ++ a ∷ b ∷ c ∷ [] = simp append_assoc in
      rw (← e, ← f) third-in

-- past the last place comes the first
holds-round : (n : ℕ) (cells bytes : List ℕ) → Holds n n cells bytes → Holds n 0 cells bytes
holds-round n cells bytes h =
    let r = h.room in
    let s : n ≤ length (drop 256 cells) = rw (length-drop 256 cells) (omega arith) in
    let e : length (take n (drop 256 cells)) ≤ n = rw (length-take-le n (drop 256 cells) s) (omega arith) in
    record {
      room = r;
      place = omega arith;
      size = h.size;
      ring = sym (turned_round (take n (drop 256 cells)) n e) ∙ h.ring;
      small = h.small;
      supports = h.supports;
    }

-- an accepted header
abbrev pub Legal : List ℕ → Type 0
Legal votes = IsHeader votes × (check_header_votes votes ≡ passed)

three : (v : List ℕ) → length v ≡ 3 → v ≡ get_or v 0 0 ∷ get_or v 1 0 ∷ get_or v 2 0 ∷ []
three [] e = absurd (omega arith)
three (a ∷ []) e = absurd (omega arith)
three (a ∷ b ∷ []) e = absurd (omega arith)
three (a ∷ b ∷ c ∷ []) e = refl
three (a ∷ b ∷ c ∷ d ∷ v) e = absurd (omega arith)

-- the bytes of headers
unfoldable pub flat : List (List ℕ) → List ℕ
flat [] = []
flat (h ∷ hs) = h ++ flat hs

flat-snoc : (hs : List (List ℕ)) (v : List ℕ) → flat (hs ++ v ∷ []) ≡ flat hs ++ v
unfolding flat
flat-snoc [] v = append-nil v
flat-snoc (h ∷ hs) v = ap (λ (bs : List ℕ). h ++ bs) (flat-snoc hs v) ∙ sym (append_assoc h (flat hs) v)

flat-length : (hs : List (List ℕ)) → Each Legal hs → length (flat hs) ≡ 3 * length hs
unfolding flat
flat-length [] e = refl
flat-length (h ∷ hs) e =
    let three = e.0.0.0 in
    let ih = flat-length hs e.1 in
    length-append h (flat hs) ∙ omega arith

flat-headers : (hs : List (List ℕ)) → Each Legal hs → headers (flat hs) ≡ hs
unfolding flat headers
flat-headers [] e = refl
flat-headers (h ∷ hs) e =
    let is = three h e.0.0.0 in
    ap (λ (g : List ℕ). headers (g ++ flat hs)) is ∙ ap (λ (gs : List (List ℕ)). (get_or h 0 0 ∷ get_or h 1 0 ∷ get_or h 2 0 ∷ []) ∷ gs) (flat-headers hs e.1) ∙ ap (λ (g : List ℕ). g ∷ hs) (sym is)

all-legal : (hs : List (List ℕ)) → Each Legal hs → AllLegal hs
all-legal [] e = tt
all-legal (h ∷ hs) e = (e.0.1, all-legal hs e.1)

-- a vote is among the bytes as often as headers vote so
flat-count : (id : ℕ) → (id ≡ 0 → ⊥) → (hs : List (List ℕ)) → Each Legal hs → count (eqb id) (flat hs) ≡ count (votes_for id) hs
flat-count id n hs e =
    let is = flat-headers hs e in
    ap (count (eqb id)) (sym (whole-threes (flat hs) (length hs) (flat-length hs e)))
    ∙ votes-headers id n (flat hs) (rw is (all-legal hs e))
    ∙ ap (count (votes_for id)) is

-- a window, its cells, and a header for each of its places, the oldest first
pub record Sound (w : Window) (cells : List ℕ) (headers : List (List ℕ)) : Type 0 where
  pub size : length headers ≡ w.length
  pub most : w.length ≤ length_most
  pub place : w.oldest < w.length
  pub legal : Each Legal headers
  pub holds : Holds (3 * w.length) (3 * w.oldest) cells (flat headers)

-- the supports are those of the headers
pub sound-supports : (w : Window) (cells : List ℕ) (hs : List (List ℕ)) → Sound w cells hs → (id : ℕ) → id < 256 → get_or cells id 0 ≡ cond (eqb id 0) 0 (count (votes_for id) hs)
unfolding counted
sound-supports w cells hs s id l = go (eqb id 0) refl (s.holds.supports id l)
  where
    go : (t : Bool) → eqb id 0 ≡ t → get_or cells id 0 ≡ cond t 0 (count (eqb id) (flat hs)) → get_or cells id 0 ≡ cond t 0 (count (votes_for id) hs)
    go true e c = c
    go false e c = c ∙ flat-count id (eqb-false id 0 e) hs s.legal

-- the next place is the oldest's
module _ (w : Window) (cells : List ℕ) (headers : List (List ℕ)) (size : length headers ≡ w.length) (most : w.length ≤ length_most) (place : w.oldest < w.length) (legal : Each Legal headers) (holds : Holds (3 * w.length) (3 * w.oldest + 3) cells (flat headers)) where
  sound-next : Sound (onward w) cells headers
  sound-next =
      by-test (eqb (w.oldest + 1) w.length)
      (λ t.
      let e = eqb-true (w.oldest + 1) w.length t in
      let f : 3 * w.oldest + 3 ≡ 3 * w.length = omega arith in
      subst (λ (v : Window). Sound v cells headers) (onward-is w (more_held w.held w.length) 0 refl (place-first w.oldest w.length e))
      (record { size = size; most = most; place = omega arith; legal = legal; holds = holds-round (3 * w.length) cells (flat headers) (rw f at holds) }))
      (λ t.
      let e = eqb-false (w.oldest + 1) w.length t in
      let f : 3 * w.oldest + 3 ≡ 3 * (w.oldest + 1) = omega arith in
      subst (λ (v : Window). Sound v cells headers) (onward-is w (more_held w.held w.length) (w.oldest + 1) refl (place-next w.oldest w.length e))
      (record { size = size; most = most; place = lt_of e; legal = legal; holds = rw f at holds }))
    where
      lt_of : (w.oldest + 1 ≡ w.length → ⊥) → w.oldest + 1 < w.length
      lt_of e = omega (arith, e)

-- a legal header enters where h is the oldest
module _ (w : Window) (cells : List ℕ) (h : List ℕ) (hs : List (List ℕ)) (sound : Sound w cells (h ∷ hs)) (v : List ℕ) (legal : Legal v) where
  in_bytes : (x y z a b c : ℕ) → h ≡ x ∷ y ∷ z ∷ [] → v ≡ a ∷ b ∷ c ∷ [] → Holds (3 * w.length) (3 * w.oldest + 3) (entered cells (cell_of w.oldest) v) (flat hs ++ v)
  unfolding flat
  in_bytes x y z a b c e f =
      let l = sound.place in
      let m = sound.most in
      let s = rw f at legal.0.1 in
      rw f
      (holds-three (3 * w.length) (3 * w.oldest) cells x y z (flat hs) (rw e at sound.holds) (omega arith) (omega arith) a b c s.0 s.1.0 s.1.1.0)

  pub sound-in : Sound (onward w) (entered cells (cell_of w.oldest) v) (hs ++ v ∷ [])
  sound-in =
      let s = sound.size in
      let g = sound.legal in
      sound-next w (entered cells (cell_of w.oldest) v) (hs ++ v ∷ []) (rw (length-append hs (v ∷ [])) (omega arith)) sound.most sound.place
      (each_snoc Legal hs v g.1 legal)
      (rw (flat-snoc hs v) (in_bytes _ _ _ _ _ _ (three h g.0.0.0) (three v legal.0.0)))

-- ---- a new window: every place has a header without votes

abbrev pub no_votes : List ℕ
no_votes = 0 ∷ 0 ∷ 0 ∷ []

flat-none : (n : ℕ) → flat (replicate n no_votes) ≡ replicate (3 * n) 0
unfolding flat
flat-none zero = refl
flat-none (suc n) =
    let e : 3 * suc n ≡ suc (suc (suc (3 * n))) = omega arith in
    rw e (ap (λ (bs : List ℕ). 0 ∷ 0 ∷ 0 ∷ bs) (flat-none n))

zeros-small : (n : ℕ) → Bytes (replicate n 0)
zeros-small zero = tt
zeros-small (suc n) = (omega arith, zeros-small n)

zeros-legal : (n : ℕ) → Each Legal (replicate n no_votes)
zeros-legal zero = tt
zeros-legal (suc n) = (((refl, (omega arith, (omega arith, (omega arith, tt)))), no-votes-legal), zeros-legal n)

zeros-ring : (m k : ℕ) (xs : List ℕ) → take k (drop m (replicate (m + k) 0 ++ xs)) ≡ replicate k 0
zeros-ring m k xs =
    rw (← replicate-append-replicate {A = ℕ} m k 0, append_assoc, drop_at (replicate m 0) (replicate k 0 ++ xs) m (length-replicate m 0), take_at (replicate k 0) xs k (length-replicate k 0))

zeros-count : (id : ℕ) → (id ≡ 0 → ⊥) → (n : ℕ) → count (eqb id) (replicate n 0) ≡ 0
unfolding count
zeros-count id z zero = refl
zeros-count id z (suc n) = let ih = zeros-count id z n in rw (ne_eqb id 0 z) (omega arith)

zeros-counted : (id n : ℕ) → 0 ≡ counted (replicate n 0) id
unfolding counted
zeros-counted id n = by-test (eqb id 0) (λ t. rw t) (λ t. rw t (sym (zeros-count id (eqb-false id 0 t) n)))

zeros-at : (n id : ℕ) (xs : List ℕ) → id < n → get_or (replicate n 0 ++ xs) id 0 ≡ 0
zeros-at n id xs l = get_or-append (replicate n 0) xs 0 id (rw (length-replicate {A = ℕ} n 0) l) ∙ get_or-replicate n id 0 0 l

pub sound-new : (n : ℕ) (xs : List ℕ) → 1 ≤ n → n ≤ length_most → Sound (empty n) (replicate (cell_of n) 0 ++ xs) (replicate n no_votes)
sound-new n xs l m =
    record {
      size = length-replicate n no_votes;
      most = m;
      place = l;
      legal = zeros-legal n;
      holds =
          rw (flat-none n)
          (record {
            room = rw (length-append (replicate (cell_of n) 0) xs, length-replicate {A = ℕ} (cell_of n) 0) (omega arith);
            place = omega arith;
            size = length-replicate (3 * n) 0;
            ring = append-nil (take (3 * n) (drop 256 (replicate (cell_of n) 0 ++ xs))) ∙ zeros-ring 256 (3 * n) xs;
            small = zeros-small (3 * n);
            supports = λ id k. zeros-at (cell_of n) id xs (omega arith) ∙ zeros-counted id (3 * n);
          });
    }
