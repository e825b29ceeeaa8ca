-- The tally of a window of headers: what its functions need, and that the first entry of a vote counts the headers that vote so.
-- Assumes nothing.
use Rattle.std.proofs.Common.{◌≡◌, ℕ, zero, suc, ◌+◌, ◌-◌, ◌*◌, ◌/◌, ◌<◌, ◌≤◌, Bool, true, false, cond, eqb, ltb, List, [], ◌∷◌, length, get_or, take, drop, ℤ, pos, sym, refl, ap, ◌∙◌, subst, add-one, arith, length-drop, length-take-le, take_all, le-ltb, lt-ltb, eq-eqb, ne_eqb, eqb-true}
use lib.Seq.{take-length}
use Rattle.std.specs.Prelude.{Ok, Err}
use Rattle.codec.specs.declared.refusal.Refusal.TheVariants.{InputLong}
use Rattle.codec.specs.Signed.{signed_of}
use Rattle.voting.specs.declared.tally.Entry.{Entry}
use Rattle.voting.specs.declared.tally.Tally.{Tally}
use Rattle.counting.specs.Count.{count}
use Rattle.voting.specs.Common.{eq_z}
use Rattle.voting.specs.Header.{votes_for, AllLegal}
use Rattle.voting.specs.Tally.{headers, whole, no_entry, no_tally, slot_entry, seeded, seeds, tally_votes_seeded, entry, entries, first_count, first_votes, counted_for}
use Rattle.voting.proofs.Laws.Integers.{eq_z-true, ne-eq_z}
use Rattle.voting.proofs.Laws.Header.{Alike, small-id, legal-once}

-- A slot's entry
module _ (later : List ℕ) (b : ℕ) where
  pub slot-none : b ≡ 0 → no_entry ≡ slot_entry later b
  unfolding slot_entry
  slot-none h = rw (eq-eqb b 0 h)

  pub slot-some : (b ≡ 0 → ⊥) → {z : ℤ} → z ≡ signed_of 8 b → {n : ℕ} → n ≡ count (eqb b) later → ◌≡◌ {A = Entry} (record { id = z; count = n + 1 }) (slot_entry later b)
  unfolding slot_entry
  slot-some h p q = rw (ne_eqb b 0 h, p, q, add-one)

-- the tally of bytes, by the first three
pub seeded-none : (s : List ℕ) → length s < 3 → no_tally ≡ seeded s
unfolding seeded
seeded-none [] h = refl
seeded-none (a ∷ []) h = refl
seeded-none (a ∷ b ∷ []) h = refl
seeded-none (a ∷ b ∷ c ∷ s) h = absurd (omega arith)

take_rest : (k : ℕ) (s : List ℕ) → take (length s - k) (drop k s) ≡ drop k s
take_rest k s = take_all (length s - k) (drop k s) (rw (length-drop k s) (omega arith))

slots : (s : List ℕ) → 3 ≤ length s → ◌≡◌ {A = Tally} (record { first = slot_entry (drop 3 s) (get_or s 0 0); second = slot_entry (drop 3 s) (get_or s 1 0); third = slot_entry (drop 3 s) (get_or s 2 0) }) (seeded s)
unfolding seeded
slots [] h = absurd (omega arith)
slots (a ∷ []) h = absurd (omega arith)
slots (a ∷ b ∷ []) h = absurd (omega arith)
slots (a ∷ b ∷ c ∷ s) h = refl

pub seeded-some : (s : List ℕ) → 3 ≤ length s → {x y z : Entry} → x ≡ slot_entry (take (length s - 3) (drop 3 s)) (get_or s 0 0) → y ≡ slot_entry (take (length s - 3) (drop 3 s)) (get_or s 1 0) → z ≡ slot_entry (take (length s - 3) (drop 3 s)) (get_or s 2 0) → ◌≡◌ {A = Tally} (record { first = x; second = y; third = z }) (seeded s)
seeded-some s h p q r = simp (p, q, r, take_rest 3 s) (slots s h)

-- The bytes of whole headers
pub whole_length : (bs : List ℕ) → length (take (3 * (length bs / 3)) bs) ≡ 3 * (length bs / 3)
whole_length bs = length-take-le (3 * (length bs / 3)) bs (omega arith)

-- The tally of a window, by its length and its height
module _ (first : ℕ) (votes : List ℕ) (boundary length' : ℕ) where
  pub window-long : 65536 < length votes / 3 → Err InputLong ≡ tally_votes_seeded first votes boundary length'
  unfolding tally_votes_seeded
  window-long h = rw (lt-ltb 65536 (length votes / 3) h)

  pub window-elsewhere : length votes / 3 ≤ 65536 → (first + length' ≡ boundary → ⊥) → {y : Tally} → y ≡ no_tally → Ok y ≡ tally_votes_seeded first votes boundary length'
  unfolding tally_votes_seeded seeds
  window-elsewhere h k e = rw (le-ltb 65536 (length votes / 3) h, ne_eqb (first + length') boundary k, e)

  pub window-here : length votes / 3 ≤ 65536 → first + length' ≡ boundary → {y : Tally} → y ≡ seeded (take (3 * (length votes / 3)) votes) → Ok y ≡ tally_votes_seeded first votes boundary length'
  unfolding tally_votes_seeded seeds whole
  window-here h k e = rw (le-ltb 65536 (length votes / 3) h, eq-eqb (first + length') boundary k, e)

-- the first entry of a vote, by the three places
entry-count : (v : ℤ) → (pos 0 ≡ v → ⊥) → (e : Entry) (es : List Entry) → first_count v (entry e es) ≡ cond (eq_z e.id v) e.count (first_count v es)
unfolding entry first_count
entry-count v n e es = go (eq_z e.id (pos 0)) refl
  where
    go : (t : Bool) → eq_z e.id (pos 0) ≡ t → first_count v (cond t es (e ∷ es)) ≡ cond (eq_z e.id v) e.count (first_count v es)
    go true k = rw (ne-eq_z e.id v (λ q. n (sym (eq_z-true e.id (pos 0) k) ∙ q)))
    go false k = refl

nothing : (v : ℤ) → first_count v [] ≡ 0
unfolding first_count
nothing v = refl

places : (v : ℤ) → (pos 0 ≡ v → ⊥) → (y : Tally) → first_count v (entries y) ≡ cond (eq_z y.first.id v) y.first.count (cond (eq_z y.second.id v) y.second.count (cond (eq_z y.third.id v) y.third.count 0))
unfolding entries
places v n y = rw (entry-count v n y.first (entry y.second (entry y.third [])), entry-count v n y.second (entry y.third []), entry-count v n y.third [], nothing v)

-- Headers, three bytes each
whole-cons : (a b c : ℕ) (bs : List ℕ) → whole (a ∷ b ∷ c ∷ bs) ≡ a ∷ b ∷ c ∷ whole bs
unfolding whole
whole-cons a b c bs =
    let e : 3 * (suc (suc (suc (length bs))) / 3) ≡ suc (suc (suc (3 * (length bs / 3)))) = omega arith in
    ap (λ (k : ℕ). take k (a ∷ b ∷ c ∷ bs)) e

pub headers-whole : (bs : List ℕ) → headers (whole bs) ≡ headers bs
unfolding headers whole
headers-whole [] = refl
headers-whole (a ∷ []) = refl
headers-whole (a ∷ b ∷ []) = refl
headers-whole (a ∷ b ∷ c ∷ bs) = ap headers (whole-cons a b c bs) ∙ ap (λ (hs : List (List ℕ)). (a ∷ b ∷ c ∷ []) ∷ hs) (headers-whole bs)

pub headers-length : (bs : List ℕ) → length (headers bs) ≡ length bs / 3
unfolding headers
headers-length [] = refl
headers-length (a ∷ []) = refl
headers-length (a ∷ b ∷ []) = refl
headers-length (a ∷ b ∷ c ∷ bs) = let ih = headers-length bs in omega arith

pub whole-threes : (bs : List ℕ) (n : ℕ) → length bs ≡ 3 * n → whole bs ≡ bs
unfolding whole
whole-threes bs n h = let e : 3 * (length bs / 3) ≡ length bs = omega arith in ap (λ (k : ℕ). take k bs) e ∙ take-length bs

-- a vote is among the bytes of legal headers as often as headers vote so
once : (n m : ℕ) → n ≤ 1 → n + m ≡ cond (ltb 0 n) 1 0 + m
once zero m h = refl
once (suc zero) m h = refl
once (suc (suc n)) m h = absurd (omega arith)

pub votes-headers : (v : ℕ) → (v ≡ 0 → ⊥) → (bs : List ℕ) → AllLegal (headers bs) → count (eqb v) (whole bs) ≡ count (votes_for v) (headers bs)
unfolding headers whole count votes_for
votes-headers v n [] l = refl
votes-headers v n (a ∷ []) l = refl
votes-headers v n (a ∷ b ∷ []) l = refl
votes-headers v n (a ∷ b ∷ c ∷ bs) l =
    ap (count (eqb v)) (whole-cons a b c bs) ∙
    (let ih = votes-headers v n bs l.1 in
    let o = once (count (eqb v) (a ∷ b ∷ c ∷ [])) (count (votes_for v) (headers bs)) (legal-once (a ∷ b ∷ c ∷ []) v n l.0) in
    omega arith)

-- the place of a slot, asked for the vote v
slot-count : (later : List ℕ) (v b m : ℕ) → (v ≡ 0 → ⊥) → eq_z (signed_of 8 b) (signed_of 8 v) ≡ eqb v b → cond (eq_z (slot_entry later b).id (signed_of 8 v)) (slot_entry later b).count m ≡ cond (eqb v b) (suc (count (eqb v) later)) m
unfolding slot_entry signed_of
slot-count later v b m n e = go (eqb b 0) refl (eqb v b) refl
  where
    go : (s : Bool) → eqb b 0 ≡ s → (t : Bool) → eqb v b ≡ t → cond (eq_z (cond s no_entry (record { id = signed_of 8 b; count = suc (count (eqb b) later) })).id (signed_of 8 v)) (cond s no_entry (record { id = signed_of 8 b; count = suc (count (eqb b) later) })).count m ≡ cond t (suc (count (eqb v) later)) m
    go true p true q = absurd (n (eqb-true v b q ∙ eqb-true b 0 p))
    go true p false q = rw (subst (λ (k : ℕ). eq_z (signed_of 8 k) (signed_of 8 v) ≡ eqb v k) (eqb-true b 0 p) e, ne_eqb v 0 n)
    go false p true q = rw (e, q, eqb-true v b q)
    go false p false q = rw (e, q)

-- one of three
among : (s t u : Bool) (n : ℕ) → cond s n (cond t n (cond u n 0)) ≡ cond (ltb 0 (cond s 1 0 + (cond t 1 0 + (cond u 1 0 + 0)))) n 0
among true true true n = refl
among true true false n = refl
among true false true n = refl
among true false false n = refl
among false true true n = refl
among false true false n = refl
among false false true n = refl
among false false false n = refl

voted-more : (v : ℕ) (h : List ℕ) (hs : List (List ℕ)) → cond (votes_for v h) (suc (count (votes_for v) hs)) 0 ≡ cond (votes_for v h) (count (votes_for v) (h ∷ hs)) 0
unfolding count
voted-more v h hs = go (votes_for v h)
  where
    go : (t : Bool) → cond t (suc (count (votes_for v) hs)) 0 ≡ cond t (cond t 1 0 + count (votes_for v) hs) 0
    go true = omega arith
    go false = refl

vote-id : (v : ℕ) → (v ≡ 0 → ⊥) → pos 0 ≡ signed_of 8 v → ⊥
unfolding signed_of
vote-id v n e = n (sym (small-id 0 v (omega arith) (sym e)))

first-slots : (v : ℕ) → (v ≡ 0 → ⊥) → (a b c : ℕ) (later : List ℕ) → Alike v (a ∷ b ∷ c ∷ []) → first_count (signed_of 8 v) (entries (seeded (a ∷ b ∷ c ∷ later))) ≡ cond (votes_for v (a ∷ b ∷ c ∷ [])) (suc (count (eqb v) later)) 0
unfolding seeded votes_for count
first-slots v n a b c later k =
    places (signed_of 8 v) (vote-id v n) (seeded (a ∷ b ∷ c ∷ later)) ∙
    slot-count later v a _ n k.0 ∙
    ap (cond (eqb v a) (suc (count (eqb v) later))) (slot-count later v b _ n k.1.0) ∙
    ap (λ (m : ℕ). cond (eqb v a) (suc (count (eqb v) later)) (cond (eqb v b) (suc (count (eqb v) later)) m)) (slot-count later v c 0 n k.1.1.0) ∙
    among (eqb v a) (eqb v b) (eqb v c) (suc (count (eqb v) later))

-- no headers, no entry
none-counted : (v : ℕ) → first_count (signed_of 8 v) (entries no_tally) ≡ 0
unfolding entries entry first_count eq_z
none-counted v = refl

-- the first entry of a vote in the tally of an epoch of legal headers has what is counted for that vote
pub tally-counts : (v : ℕ) → (v ≡ 0 → ⊥) → (bs : List ℕ) → whole bs ≡ bs → Alike v bs → AllLegal (headers bs) → first_count (signed_of 8 v) (entries (seeded bs)) ≡ counted_for v bs
unfolding headers seeded counted_for first_votes count
tally-counts v n [] w k l = none-counted v
tally-counts v n (a ∷ []) w k l = none-counted v
tally-counts v n (a ∷ b ∷ []) w k l = none-counted v
tally-counts v n (a ∷ b ∷ c ∷ bs) w k l =
    ap (λ (s : List ℕ). first_count (signed_of 8 v) (entries (seeded s))) (sym w ∙ whole-cons a b c bs) ∙
    first-slots v n a b c (whole bs) (k.0, (k.1.0, (k.1.1.0, tt))) ∙
    ap (λ (m : ℕ). cond (votes_for v (a ∷ b ∷ c ∷ [])) (suc m) 0) (votes-headers v n bs l.1) ∙
    voted-more v (a ∷ b ∷ c ∷ []) (headers bs)
