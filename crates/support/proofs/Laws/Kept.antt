-- After every list of headers the supports are those of a count made afresh.
-- Assumes nothing.
use Rattle.std.proofs.Common.{◌≡◌, ℕ, zero, suc, ◌+◌, ◌-◌, ◌<◌, ◌≤◌, Bool, true, false, cond, eqb, ltb, List, [], ◌∷◌, ◌++◌, length, get_or, drop, replicate, sym, refl, ap, ◌∙◌, subst, append_assoc, append-nil, arith, length-drop, ltb-false, ltb-true, ne_eqb}
use native.Mathlib.Nat.{sub-zero, zero-sub, suc-sub-suc}
use borrow.Author.Tests.{eqb-false}
use Rattle.std.specs.Prelude.{Ok, Err, is_ok}
use Rattle.codec.specs.declared.refusal.Refusal.{Refusal}
use Rattle.codec.specs.Check.{Check, passed}
use Rattle.counting.specs.Count.{count}
use Rattle.voting.specs.Common.{Each}
use Rattle.voting.specs.Header.{check_header_votes, votes_for}
use Rattle.voting.proofs.Laws.Tests.{by-test, by-answer}
use Rattle.support.specs.declared.window.Window.{Window}
use Rattle.support.specs.Support.{IsHeader, accepted, last, support}
use Rattle.support.specs.Window.{left, length_most, cell_of, empty, entered, more_held, onward, check_new, new_of, check_put, put_of}
use Rattle.support.specs.Kept.{Held, keeps, after, Kept, SupportKept}
use Rattle.support.proofs.Laws.Calls.{room-fine, new-room, new-made, header-stops, header-passes, put_refused, put-enters}
use Rattle.support.proofs.Laws.Headers.{Sound, sound-in, sound-supports, sound-new, no_votes}

-- the headers of the places after one more
unfoldable pushed : List (List ℕ) → List ℕ → List (List ℕ)
pushed hs v = cond (is_ok (check_header_votes v)) (drop 1 hs ++ v ∷ []) hs

-- and after those
abbrev slid : List (List ℕ) → List (List ℕ) → List (List ℕ)
slid hs vs = drop (length vs) (hs ++ vs)

module _ (w : Window) (cells : List ℕ) (hs : List (List ℕ)) (sound : Sound w cells hs) (v : List ℕ) (header : IsHeader v) where
  put-legal : check_header_votes v ≡ passed → passed ≡ check_put w (length cells) v
  put-legal q =
      let r = sound.holds.room in
      room-fine w (length cells) (record { place = sound.place; most = sound.most; enough = r }) ∙ header-passes w (length cells) v refl q

  -- the two ways of a header: it enters, or it is refused
  by-put : (P : Held → Type 0)
      → (check_header_votes v ≡ passed → P (record { window = onward w; cells = entered cells (cell_of w.oldest) v }))
      → ((e : Refusal) → check_header_votes v ≡ Err e → P (record { window = w; cells = cells }))
      → P (keeps w (put_of w cells v))
  by-put P enters stays =
      by-answer (check_header_votes v)
      (λ _ q. subst (λ p. P (keeps w p)) (put-enters w cells v (put-legal q) refl (onward w) refl (cell_of w.oldest) refl (entered cells (cell_of w.oldest) v) refl) (enters q))
      (λ e q. subst (λ p. P (keeps w p)) (put_refused w cells v (header-stops w (length cells) v refl q) refl) (stays e q))

  in-sound : check_header_votes v ≡ passed → (gs : List (List ℕ)) → hs ≡ gs → Sound (onward w) (entered cells (cell_of w.oldest) v) (drop 1 hs ++ v ∷ [])
  in-sound e [] q = let l = sound.place in let s = rw q at sound.size in absurd (omega arith)
  in-sound e (g ∷ gs) q = rw q (sound-in w cells g gs (rw q at sound) v (header, e))

  -- what the caller has then
  abbrev kept : Held
  kept = keeps w (put_of w cells v)

  step-sound : Sound kept.window kept.cells (pushed hs v)
  unfolding pushed
  step-sound =
      by-put (λ p. Sound p.window p.cells (pushed hs v))
      (λ q. rw q (in-sound q hs refl))
      (λ e q. rw q sound)

  -- how many are held, when k more have entered
  abbrev Fills : Window → ℕ → ℕ → Type 0
  Fills u k m = (u.held ≤ u.length) × (u.held + k - (u.held + k - u.length) ≡ w.held + m - (w.held + m - w.length))

  step-held : w.held ≤ w.length → (vs : List (List ℕ)) → Fills kept.window (length (accepted vs)) (length (accepted (v ∷ vs)))
  unfolding accepted onward more_held
  step-held l vs =
      by-put (λ p. Fills p.window (length (accepted vs)) (length (accepted (v ∷ vs))))
      (λ q.
      rw q
      (by-test (ltb w.held w.length)
      (λ u. rw u (omega (arith, ltb-true), omega (arith, ltb-true)))
      (λ u. rw u (omega (arith, ltb-false), omega (arith, ltb-false)))))
      (λ e q. rw q (l, refl))

-- which headers have a place at last
slid-one : (hs vs : List (List ℕ)) (v : List ℕ) → 0 < length hs → slid hs (v ∷ vs) ≡ slid (drop 1 hs ++ v ∷ []) vs
slid-one [] vs v l = absurd (omega arith)
slid-one (h ∷ hs) vs v l = ap (drop (length vs)) (sym (append_assoc hs (v ∷ []) vs))

step-slid : (hs vs : List (List ℕ)) (v : List ℕ) → 0 < length hs → slid hs (accepted (v ∷ vs)) ≡ slid (pushed hs v) (accepted vs)
unfolding accepted pushed
step-slid hs vs v l = go (is_ok (check_header_votes v))
  where
    go : (t : Bool) → slid hs (cond t (v ∷ accepted vs) (accepted vs)) ≡ slid (cond t (drop 1 hs ++ v ∷ []) hs) (accepted vs)
    go true = slid-one hs (accepted vs) v l
    go false = refl

slid-none : (hs : List (List ℕ)) → hs ≡ slid hs (accepted [])
unfolding accepted
slid-none hs = sym (append-nil hs)

supports-after : (h : Held) (hs : List (List ℕ)) → Sound h.window h.cells hs → (vs : List (List ℕ)) → Each IsHeader vs → (id : ℕ) → id < 256
    → get_or (after h vs).cells id 0 ≡ cond (eqb id 0) 0 (count (votes_for id) (slid hs (accepted vs)))
unfolding after
supports-after h hs s [] e id l = sound-supports h.window h.cells hs s id l ∙ ap (λ (gs : List (List ℕ)). cond (eqb id 0) 0 (count (votes_for id) gs)) (slid-none hs)
supports-after h hs s (v ∷ vs) e id l =
    let size = s.size in
    let place = s.place in
    supports-after (keeps h.window (put_of h.window h.cells v)) (pushed hs v) (step-sound h.window h.cells hs s v e.0) vs e.1 id l
    ∙ ap (λ (gs : List (List ℕ)). cond (eqb id 0) 0 (count (votes_for id) gs)) (sym (step-slid hs vs v (omega arith)))

held_after : (h : Held) (hs : List (List ℕ)) → Sound h.window h.cells hs → h.window.held ≤ h.window.length → (vs : List (List ℕ)) → Each IsHeader vs
    → (after h vs).window.held ≡ h.window.held + length (accepted vs) - (h.window.held + length (accepted vs) - h.window.length)
unfolding after accepted
held_after h hs s l [] e = omega arith
held_after h hs s l (v ∷ vs) e =
    let w = h.window in
    let f = step-held w h.cells hs s v e.0 l vs in
    held_after (keeps w (put_of w h.cells v)) (pushed hs v) (step-sound w h.cells hs s v e.0) f.0 vs e.1 ∙ f.1

-- headers without votes support no id
module _ (p : List ℕ → Bool) (none : p no_votes ≡ false) (vs : List (List ℕ)) where
  count-all : (n : ℕ) → count p (replicate n no_votes ++ vs) ≡ count p vs
  unfolding count
  count-all zero = refl
  count-all (suc n) = let ih = count-all n in rw none (omega arith)

  count-last : (n k : ℕ) → count p (drop k (replicate n no_votes ++ vs)) ≡ count p (drop (k - n) vs)
  count-last zero k = rw (sub-zero k)
  count-last (suc n) zero = count-all (suc n) ∙ ap (λ (j : ℕ). count p (drop j vs)) (sym (zero-sub (suc n)))
  count-last (suc n) (suc k) = rw (suc-sub-suc k n) (count-last n k)

vote-none : (id : ℕ) → (id ≡ 0 → ⊥) → votes_for id no_votes ≡ false
unfolding votes_for count
vote-none id n = rw (ne_eqb id 0 n)

-- so it is of a new window
module _ (n : ℕ) (xs : List ℕ) (l : 1 ≤ n) (m : n ≤ length_most) (vs : List (List ℕ)) (headers : Each IsHeader vs) where
  abbrev new : Held
  new = record { window = empty n; cells = replicate (cell_of n) 0 ++ xs }

  new-supports : (id : ℕ) → id < 256 → get_or (after new vs).cells id 0 ≡ support n vs id
  unfolding support
  new-supports id k = supports-after new (replicate n no_votes) (sound-new n xs l m) vs headers id k ∙ go (eqb id 0) refl
    where
      go : (t : Bool) → eqb id 0 ≡ t → cond t 0 (count (votes_for id) (slid (replicate n no_votes) (accepted vs))) ≡ cond t 0 (count (votes_for id) (last n (accepted vs)))
      go true q = refl
      go false q = count-last (votes_for id) (vote-none id (eqb-false id 0 q)) (accepted vs) n (length (accepted vs))

  new-held : (after new vs).window.held ≡ length (last n (accepted vs))
  new-held = held_after new (replicate n no_votes) (sound-new n xs l m) (omega arith) vs headers ∙ rw (length-drop (length (accepted vs) - n) (accepted vs)) (omega arith)

  new-kept : Kept n vs (after new vs)
  new-kept = record { supports = new-supports; held = new-held }

-- the call that makes it
pub kept-made : (n : ℕ) (cells : List ℕ) {r : Check} → r ≡ check_new n (length cells) → r ≡ passed → (w : Window) → w ≡ empty n → (size : ℕ) → size ≡ cell_of n
    → (after : List ℕ) → after ≡ replicate size 0 ++ drop size cells → (left (Ok w) after ≡ new_of n cells) × SupportKept n (left (Ok w) after)
kept-made n cells is-r q w is size is-size after f =
    let room = new-room n (length cells) (sym is-r ∙ q) in
    let zeros = rw is-size at f in
    rw is (new-made n cells is-r q after zeros, λ v g vs headers. let same : v ≡ empty n = cc in rw (same, zeros) (new-kept n (drop (cell_of n) cells) room.place room.most vs headers))
