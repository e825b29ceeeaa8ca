-- The tally of an epoch of legal headers: no entry repeats or contradicts another.
-- Assumes nothing.
use Rattle.std.proofs.Common.{◌≡◌, ℕ, suc, ◌<◌, Bool, true, false, cond, eqb, List, [], ◌∷◌, ℤ, pos, sym, refl, ap, ◌∙◌, true≢false, arith, w8, lt-ltb, eq-eqb, eqb-true}
use Rattle.codec.specs.Check.{passed}
use Rattle.codec.specs.Signed.{bits_of, signed_of}
use Rattle.codec.proofs.Laws.Signed.{signed_back}
use Rattle.voting.specs.declared.tally.Entry.{Entry}
use Rattle.counting.specs.Count.{count}
use Rattle.voting.specs.Common.{eq_z, Each, Pairwise, Bytes}
use Rattle.voting.specs.Header.{negation, check_header_votes, votes_for, AllLegal}
use Rattle.voting.specs.Tally.{headers, no_entry, no_tally, slot_entry, seeded, entry, entries}
use Rattle.voting.specs.Order.{Compatible, Consistent}
use Rattle.voting.proofs.Laws.Integers.{eq_z-same}
use Rattle.voting.proofs.Laws.Header.{legal-once, legal-apart}

-- a place with id 0 holds no entry
some : (e : Entry) → eq_z e.id (pos 0) ≡ false → e.id ≡ pos 0 → ⊥
some e q z = true≢false (sym (eq_z-same (pos 0)) ∙ ap (λ (x : ℤ). eq_z x (pos 0)) (sym z) ∙ q)

module _ (e : Entry) (es : List Entry) where
  entry-each : (P : Entry → Type 0) → ((e.id ≡ pos 0 → ⊥) → P e) → Each P es → Each P (entry e es)
  unfolding entry
  entry-each P f h = go (eq_z e.id (pos 0)) refl
    where
      go : (t : Bool) → eq_z e.id (pos 0) ≡ t → Each P (cond t es (e ∷ es))
      go true q = h
      go false q = (f (some e q), h)

  entry-pairwise : (R : Entry → Entry → Type 0) → ((e.id ≡ pos 0 → ⊥) → Each (R e) es) → Pairwise R es → Pairwise R (entry e es)
  unfolding entry
  entry-pairwise R f h = go (eq_z e.id (pos 0)) refl
    where
      go : (t : Bool) → eq_z e.id (pos 0) ≡ t → Pairwise R (cond t es (e ∷ es))
      go true q = h
      go false q = (f (some e q), h)

slot-id : (later : List ℕ) (b : ℕ) → (slot_entry later b).id ≡ signed_of 8 b
unfolding slot_entry signed_of
slot-id later b = go (eqb b 0) refl
  where
    go : (t : Bool) → eqb b 0 ≡ t → (cond t no_entry (record { id = signed_of 8 b; count = suc (count (eqb b) later) })).id ≡ signed_of 8 b
    go true e = ap (signed_of 8) (sym (eqb-true b 0 e))
    go false e = refl

zero-id : signed_of 8 0 ≡ pos 0
unfolding signed_of
zero-id = refl

-- two places of a legal header
module _ (bs : List ℕ) (legal : check_header_votes bs ≡ passed) (later : List ℕ) where
  slots-compatible : (a b : ℕ) → a < 256 → b < 256 → 0 < count (eqb a) bs → 0 < count (eqb b) bs → (a ≡ b → 1 < count (eqb a) bs)
      → ((slot_entry later a).id ≡ pos 0 → ⊥) → ((slot_entry later b).id ≡ pos 0 → ⊥) → Compatible (slot_entry later a) (slot_entry later b)
  unfolding votes_for
  slots-compatible a b a<256 b<256 has-a has-b twice na nb = (
    λ e. (let t = twice (sym (signed_back w8 a a<256) ∙ ap (bits_of 8) (sym (slot-id later a) ∙ e ∙ slot-id later b) ∙ signed_back w8 b b<256) in
        let o = legal-once bs a (vote a na) legal in omega arith),
    λ e. true≢false
        (sym (lt-ltb 0 (count (eqb a) bs) has-a)
        ∙ legal-apart bs b a (vote b nb) (vote a na) (opposite e) legal (lt-ltb 0 (count (eqb b) bs) has-b)),
  )
    where
      vote : (v : ℕ) → ((slot_entry later v).id ≡ pos 0 → ⊥) → v ≡ 0 → ⊥
      vote v n e = n (slot-id later v ∙ ap (signed_of 8) e ∙ zero-id)

      opposite : (slot_entry later a).id ≡ negation (slot_entry later b).id → eq_z (negation (signed_of 8 b)) (signed_of 8 a) ≡ true
      opposite e =
          ap (λ (x : ℤ). eq_z x (signed_of 8 a)) (ap negation (sym (slot-id later b)) ∙ sym e ∙ slot-id later a) ∙ eq_z-same (signed_of 8 a)

slots-consistent : (a b c : ℕ) (later : List ℕ) → a < 256 → b < 256 → c < 256 → check_header_votes (a ∷ b ∷ c ∷ []) ≡ passed → Consistent (entries (seeded (a ∷ b ∷ c ∷ later)))
unfolding entries seeded count
slots-consistent a b c later ha hb hc legal =
    let x = slot_entry later a in
    let y = slot_entry later b in
    let z = slot_entry later c in
    let here = slots-compatible (a ∷ b ∷ c ∷ []) legal later in
    let aa = eq-eqb a a refl in
    let bb = eq-eqb b b refl in
    let cc' = eq-eqb c c refl in
    let ab = here a b ha hb (rw aa (omega arith)) (rw bb (omega arith)) (λ e. rw (aa, eq-eqb a b e) (omega arith)) in
    let ac = here a c ha hc (rw aa (omega arith)) (rw cc' (omega arith)) (λ e. rw (aa, eq-eqb a c e) (omega arith)) in
    let bc = here b c hb hc (rw bb (omega arith)) (rw cc' (omega arith)) (λ e. rw (bb, eq-eqb b c e) (omega arith)) in
    let last = entry z [] in
    entry-pairwise x (entry y last) Compatible
    (λ n. entry-each y last (Compatible x) (ab n) (entry-each z [] (Compatible x) (ac n) tt))
    (entry-pairwise y last Compatible (λ n. entry-each z [] (Compatible y) (bc n) tt) (entry-pairwise z [] Compatible (λ n. tt) tt))

none-consistent : Consistent (entries no_tally)
unfolding entries entry eq_z
none-consistent = tt

pub tally-consistent : (bytes : List ℕ) → Bytes bytes → AllLegal (headers bytes) → Consistent (entries (seeded bytes))
unfolding headers seeded
tally-consistent [] h l = none-consistent
tally-consistent (a ∷ []) h l = none-consistent
tally-consistent (a ∷ b ∷ []) h l = none-consistent
tally-consistent (a ∷ b ∷ c ∷ bytes) h l = slots-consistent a b c bytes h.0 h.1.0 h.1.1.0 l.0
