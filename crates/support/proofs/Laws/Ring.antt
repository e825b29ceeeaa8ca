-- The ring of vote bytes: what one byte that is put into it does, to the ring and to the supports.
-- Assumes nothing.
use Rattle.std.proofs.Common.{◌≡◌, ℕ, suc, ◌+◌, ◌%◌, ◌<◌, ◌≤◌, Bool, true, false, cond, eqb, List, [], ◌∷◌, ◌++◌, length, get_or, take, drop, set, sym, refl, ap, ◌∙◌, subst, append_assoc, append-nil, arith, length-append, length-drop, length-set, drop_of_length-le, length-take-le, get_or-drop, take_all, drop-cons, get_or-set_other, get_or-take, take-suc-set, drop-set-lt, eqb-true}
use borrow.Author.Tests.{eqb-false}
use lib.Seq.{drop-set-add, take-set-lt}
use Rattle.counting.specs.Count.{count}
use Rattle.voting.specs.Common.{Each, Bytes}
use Rattle.counting.proofs.Laws.Count.{count_most, count-append}
use Rattle.support.specs.Window.{added, one_more, one_less, replaced}
use Rattle.support.proofs.Laws.Cells.{added-length, added-drop, added-zero, added-at}

-- a ring from the place q on, and round to it
abbrev pub turned : ℕ → List ℕ → List ℕ
turned q r = drop q r ++ take q r

-- without its first
abbrev rest : ℕ → List ℕ → List ℕ
rest q r = drop (suc q) r ++ take q r

turned-first : (r : List ℕ) (q : ℕ) → q < length r → turned q r ≡ get_or r q 0 ∷ rest q r
turned-first r q h = rw (drop-cons r q 0 h)

turned_set : (r : List ℕ) (q b : ℕ) → q < length r → turned (suc q) (set r q b) ≡ rest q r ++ b ∷ []
turned_set r q b h = let l : q < suc q = omega arith in rw (drop-set-lt (suc q) r q b l, take-suc-set r q b h, append_assoc)

pub turned_round : (r : List ℕ) (q : ℕ) → length r ≤ q → turned q r ≡ turned 0 r
turned_round r q h = rw (drop_of_length-le r h, take_all q r h, append-nil)

pub each_snoc : {A : Type 0} (P : A → Type 0) (xs : List A) (b : A) → Each P xs → P b → Each P (xs ++ b ∷ [])
each_snoc P [] b h k = (k, h)
each_snoc P (x ∷ xs) b h k = (h.0, each_snoc P xs b h.1 k)

-- how often an id is among bytes; 0 is no vote
unfoldable pub counted : List ℕ → ℕ → ℕ
counted bytes id = cond (eqb id 0) 0 (count (eqb id) bytes)

-- the ring of n bytes, from the place q on, is these bytes, and the supports are what is counted among them
pub record Holds (n q : ℕ) (cells bytes : List ℕ) : Type 0 where
  pub room : 256 + n ≤ length cells
  pub place : q ≤ n
  pub size : length bytes ≡ n
  pub ring : turned q (take n (drop 256 cells)) ≡ bytes
  pub small : Bytes bytes
  pub supports : (id : ℕ) → id < 256 → get_or cells id 0 ≡ counted bytes id

module _ (n q : ℕ) (cells : List ℕ) (x : ℕ) (bytes : List ℕ) (holds : Holds n q cells (x ∷ bytes)) (l : q < n) (m : n < 65535) (b : ℕ) (small_b : b < 256) where
  ring-length : length (take n (drop 256 cells)) ≡ n
  ring-length = let h = holds.room in length-take-le n (drop 256 cells) (rw (length-drop 256 cells) (omega arith))

  -- the byte that leaves stands at the place q
  parts : get_or (take n (drop 256 cells)) q 0 ∷ rest q (take n (drop 256 cells)) ≡ x ∷ bytes
  parts = let e = ring-length in sym (turned-first (take n (drop 256 cells)) q (omega arith)) ∙ holds.ring

  oldest : get_or cells (256 + q) 0 ≡ x
  oldest =
      let e = parts in
      let f : get_or (take n (drop 256 cells)) q 0 ≡ x = cc in
      sym (get_or-drop 256 cells q 0) ∙ sym (get_or-take n (drop 256 cells) q 0 l) ∙ f

  others : rest q (take n (drop 256 cells)) ≡ bytes
  others = let e = parts in cc

  low : x < 256
  low = holds.small.0

  -- the cells when the byte has left, when the new one stands, and when it is counted
  abbrev without : List ℕ
  without = added cells x one_less

  abbrev stored : List ℕ
  stored = set without (256 + q) b

  abbrev with : List ℕ
  with = added stored b one_more

  stored-length : length stored ≡ length cells
  stored-length = length-set without (256 + q) b ∙ added-length cells x one_less

  with-length : length with ≡ length cells
  with-length = added-length stored b one_more ∙ stored-length

  with-drop : drop 256 with ≡ set (drop 256 cells) q b
  with-drop = added-drop stored b one_more 256 small_b ∙ drop-set-add 256 without q b ∙ ap (λ (d : List ℕ). set d q b) (added-drop cells x one_less 256 low)

  with-ring : turned (suc q) (take n (drop 256 with)) ≡ bytes ++ b ∷ []
  with-ring =
      let e = ring-length in
      ap (λ (d : List ℕ). turned (suc q) (take n d)) with-drop
      ∙ ap (turned (suc q)) (take-set-lt n (drop 256 cells) q b l)
      ∙ turned_set (take n (drop 256 cells)) q b (omega arith)
      ∙ ap (λ (u : List ℕ). u ++ b ∷ []) others

  with-zero : get_or with 0 0 ≡ get_or cells 0 0
  with-zero = added-zero stored b one_more ∙ get_or-set_other without (256 + q) 0 b 0 (λ e. omega arith) ∙ added-zero cells x one_less

  -- one less for the byte that leaves, one more for the byte that enters
  module _ (id : ℕ) (vote : id ≡ 0 → ⊥) (h : id < 256) (k : ℕ) (few : k < 65535) where
    leaves : get_or cells id 0 ≡ cond (eqb id x) 1 0 + k → get_or without id 0 ≡ k
    leaves e =
        let v = low in
        let r = holds.room in
        go (eqb id x) e (added-at cells x one_less id vote (omega arith))
      where
        go : (t : Bool) → get_or cells id 0 ≡ cond t 1 0 + k → (get_or cells id 0 < 65536 → get_or without id 0 ≡ (get_or cells id 0 + cond t one_less 0) % 65536) → get_or without id 0 ≡ k
        go true e f = f (omega arith) ∙ omega arith
        go false e f = f (omega arith) ∙ omega arith

    enters : get_or stored id 0 ≡ k → get_or with id 0 ≡ k + cond (eqb id b) 1 0
    enters e =
        let r = holds.room in
        let s = stored-length in
        go (eqb id b) (added-at stored b one_more id vote (omega arith))
      where
        go : (t : Bool) → (get_or stored id 0 < 65536 → get_or with id 0 ≡ (get_or stored id 0 + cond t one_more 0) % 65536) → get_or with id 0 ≡ k + cond t 1 0
        go true f = f (omega arith) ∙ omega arith
        go false f = f (omega arith) ∙ omega arith

  with-vote : (id : ℕ) → (id ≡ 0 → ⊥) → id < 256 → get_or cells id 0 ≡ count (eqb id) (x ∷ bytes) → get_or with id 0 ≡ count (eqb id) (bytes ++ b ∷ [])
  unfolding count
  with-vote id vote h e =
      let s = holds.size in
      let k : count (eqb id) bytes ≤ length bytes = count_most (eqb id) bytes in
      let d : get_or stored id 0 ≡ count (eqb id) bytes = get_or-set_other without (256 + q) id b 0 (λ z. omega arith) ∙ leaves id vote h (count (eqb id) bytes) (omega arith) e in
      enters id vote h (count (eqb id) bytes) (omega arith) d ∙ omega (arith, count-append (eqb id) bytes (b ∷ []))

  with-supports : (id : ℕ) → id < 256 → get_or with id 0 ≡ counted (bytes ++ b ∷ []) id
  unfolding counted
  with-supports id h = go (eqb id 0) refl (holds.supports id h)
    where
      go : (t : Bool) → eqb id 0 ≡ t → get_or cells id 0 ≡ cond t 0 (count (eqb id) (x ∷ bytes)) → get_or with id 0 ≡ cond t 0 (count (eqb id) (bytes ++ b ∷ []))
      go true z e =
          let y : id ≡ 0 = eqb-true id 0 z in
          ap (λ (i : ℕ). get_or with i 0) y ∙ with-zero ∙ ap (λ (i : ℕ). get_or cells i 0) (sym y) ∙ e
      go false z e = with-vote id (eqb-false id 0 z) h e

  -- the next place, and the bytes without the first, with the new one
  pub holds-one : Holds n (suc q) (replaced cells (256 + q) b) (bytes ++ b ∷ [])
  unfolding replaced
  holds-one =
      let v = low in
      let e : get_or cells (256 + q) 0 % 256 ≡ x = ap (λ (i : ℕ). i % 256) oldest ∙ omega arith in
      subst (λ (i : ℕ). Holds n (suc q) (added (set (added cells i one_less) (256 + q) b) b one_more) (bytes ++ b ∷ [])) (sym e)
      (let s = holds.size in
      let r = holds.room in
      let w = with-length in
      record {
        room = omega arith;
        place = l;
        size = rw (length-append bytes (b ∷ [])) (omega arith);
        ring = with-ring;
        small = each_snoc (λ i. i < 256) bytes b holds.small.1 small_b;
        supports = with-supports;
      })
