-- A tagged field at a position, by the tests in order; and a record, field by field.
-- Assumes nothing.
use mathlib.Core.Path.{◌≡◌, refl, sym, ap, subst, ◌∙◌}
use mathlib.Core.Bool.{Bool, true, false, cond, ◌||◌}
use mathlib.Core.List.{List, [], ◌∷◌}
use Prim.Native.Nat.{ℕ, ◌+◌, ◌-◌, ◌≤◌, ◌<◌}
use native.Mathlib.Omega.{arith}
use borrow.Author.Tests.{lt-ltb, le-ltb, lt-leb, le-leb, ltb-true, ltb-false, leb-true, leb-false, eq-eqb, ne_eqb, eqb-true, eqb-false}
use lib.Dec.{ltb, leb, eqb}
use lib.ListN.{length, get_or}
use Rattle.std.specs.Prelude.{Result, Ok, Err}
use Rattle.codec.specs.BigEndian.{big_endian}
use Rattle.voting.proofs.Laws.Tests.{neither}
use Rattle.archive.specs.declared.record.Unread.{Unread}
use Rattle.archive.specs.declared.record.Unread.TheVariants.{Short, Malformed}
use Rattle.archive.specs.Record.{body_most, sized_at, tagged_at, record_at}

-- the length that a field's two bytes say
abbrev pub size_of : List ℕ → ℕ → ℕ
size_of s at = big_endian (get_or s (at + 1) 0 ∷ get_or s (at + 2) 0 ∷ [])

-- a value of n bytes
module _ (s : List ℕ) (start least most n : ℕ) where
  pub sized-malformed : (ltb n least || ltb most n) ≡ true → Err Malformed ≡ sized_at s start least most n
  unfolding sized_at
  sized-malformed e = rw e

  module _ (q : (ltb n least || ltb most n) ≡ false) where
    pub sized-short : length s < start + n → (k : ℕ) → k ≡ start + n - length s → Err (Short k) ≡ sized_at s start least most n
    unfolding sized_at
    sized-short h k e = rw (q, lt-ltb (length s) (start + n) h, e)

    pub sized-ends : start + n ≤ length s → Ok (start + n) ≡ sized_at s start least most n
    unfolding sized_at
    sized-ends h = rw (q, le-ltb (length s) (start + n) h)

-- a tagged field
module _ (s : List ℕ) (at tag least most : ℕ) where
  pub tagged-none : length s ≤ at → Err (Short 3) ≡ tagged_at s at tag least most
  unfolding tagged_at
  tagged-none h = rw (le-leb (length s) at h)

  module _ (h : at < length s) where
    pub tagged-malformed : (get_or s at 0 ≡ tag → ⊥) → Err Malformed ≡ tagged_at s at tag least most
    unfolding tagged_at
    tagged-malformed d = rw (lt-leb (length s) at h, ne_eqb (get_or s at 0) tag d)

    module _ (t : get_or s at 0 ≡ tag) where
      pub tagged-cut : length s < at + 3 → (k : ℕ) → k ≡ at + 3 - length s → Err (Short k) ≡ tagged_at s at tag least most
      unfolding tagged_at
      tagged-cut l k e = rw (lt-leb (length s) at h, eq-eqb (get_or s at 0) tag t, lt-ltb (length s) (at + 3) l, e)

      pub tagged-sized : at + 3 ≤ length s → (n : ℕ) → n ≡ size_of s at → sized_at s (at + 3) least most n ≡ tagged_at s at tag least most
      unfolding tagged_at
      tagged-sized l n e = rw (lt-leb (length s) at h, eq-eqb (get_or s at 0) tag t, le-ltb (length s) (at + 3) l, e)

-- what holds where a tagged field ends, where bytes are missing, and where it is another one
pub record Here (s : List ℕ) (at tag least most e : ℕ) : Type 0 where
  pub tag_is : get_or s at 0 ≡ tag
  pub not-less : least ≤ size_of s at
  pub not_more : size_of s at ≤ most
  pub ends_at : e ≡ at + 3 + size_of s at
  pub inside : e ≤ length s

pub here : (s : List ℕ) (at tag least most e : ℕ) → Here s at tag least most e → Ok e ≡ tagged_at s at tag least most
here s at tag least most e h =
    let n = size_of s at in
    let q : (ltb n least || ltb most n) ≡ false = rw (le-ltb n least h.not-less, le-ltb most n h.not_more) in
    ap Ok h.ends_at ∙ sized-ends s (at + 3) least most n q (omega (arith, h.ends_at, h.inside))
    ∙ tagged-sized s at tag least most (omega (arith, h.ends_at, h.inside)) h.tag_is (omega (arith, h.ends_at, h.inside)) n refl

-- bytes are missing of the tag and the length, or of the value
pub data Missing (s : List ℕ) (at most k : ℕ) : Type 0 where
  of-header : 0 < k → length s + k ≡ at + 3 → Missing s at most k
  of-value : 0 < k → at + 3 ≤ length s → size_of s at ≤ most → length s + k ≡ at + 3 + size_of s at → Missing s at most k

-- another tag, or another length
pub data Wrong (s : List ℕ) (at tag least most : ℕ) : Type 0 where
  of-tag : at < length s → (get_or s at 0 ≡ tag → ⊥) → Wrong s at tag least most
  of_size : get_or s at 0 ≡ tag → at + 3 ≤ length s → (ltb (size_of s at) least || ltb most (size_of s at)) ≡ true → Wrong s at tag least most

-- the three answers
abbrev Says : List ℕ → ℕ → ℕ → ℕ → ℕ → Result ℕ Unread → Type 0
Says s at tag least most (Ok e) = Here s at tag least most e
Says s at tag least most (Err (Short k)) = Missing s at most k
Says s at tag least most (Err Malformed) = Wrong s at tag least most

says-sized : (s : List ℕ) (at tag least most : ℕ) → get_or s at 0 ≡ tag → at + 3 ≤ length s → Says s at tag least most (sized_at s (at + 3) least most (size_of s at))
unfolding sized_at
says-sized s at tag least most t l =
    go (ltb (size_of s at) least || ltb most (size_of s at)) (ltb (length s) (at + 3 + size_of s at)) refl refl
  where
    go : (p q : Bool) → (ltb (size_of s at) least || ltb most (size_of s at)) ≡ p → ltb (length s) (at + 3 + size_of s at) ≡ q
        → Says s at tag least most (cond p (Err Malformed) (cond q (Err (Short (at + 3 + size_of s at - length s))) (Ok (at + 3 + size_of s at))))
    go true q hp hq = of_size t l hp
    go false true hp hq =
        let w = neither (ltb (size_of s at) least) (ltb most (size_of s at)) hp in
        let k = ltb-true (length s) (at + 3 + size_of s at) hq in
        of-value (omega (arith, k)) l (ltb-false most (size_of s at) w.1) (omega (arith, k))
    go false false hp hq =
        let w = neither (ltb (size_of s at) least) (ltb most (size_of s at)) hp in
        record {
          tag_is = t;
          not-less = ltb-false (size_of s at) least w.0;
          not_more = ltb-false most (size_of s at) w.1;
          ends_at = refl;
          inside = ltb-false (length s) (at + 3 + size_of s at) hq;
        }

says : (s : List ℕ) (at tag least most : ℕ) → at ≤ length s → Says s at tag least most (tagged_at s at tag least most)
unfolding tagged_at
says s at tag least most a = go (leb (length s) at) (eqb (get_or s at 0) tag) (ltb (length s) (at + 3)) refl refl refl
  where
    go : (p q r : Bool) → leb (length s) at ≡ p → eqb (get_or s at 0) tag ≡ q → ltb (length s) (at + 3) ≡ r
        → Says s at tag least most (cond p (Err (Short 3)) (cond q (cond r (Err (Short (at + 3 - length s))) (sized_at s (at + 3) least most (size_of s at))) (Err Malformed)))
    go true q r hp hq hr = of-header (omega arith) (omega (arith, leb-true (length s) at hp))
    go false true true hp hq hr = let k = ltb-true (length s) (at + 3) hr in of-header (omega (arith, k)) (omega (arith, k))
    go false true false hp hq hr = says-sized s at tag least most (eqb-true (get_or s at 0) tag hq) (ltb-false (length s) (at + 3) hr)
    go false false r hp hq hr = of-tag (leb-false (length s) at hp) (eqb-false (get_or s at 0) tag hq)

module _ (s : List ℕ) (at tag least most : ℕ) (a : at ≤ length s) where
  pub ends-here : (e : ℕ) → Ok e ≡ tagged_at s at tag least most → Here s at tag least most e
  ends-here e q = subst (Says s at tag least most) (sym q) (says s at tag least most a)

  pub short-missing : (k : ℕ) → Err (Short k) ≡ tagged_at s at tag least most → Missing s at most k
  short-missing k q = subst (Says s at tag least most) (sym q) (says s at tag least most a)

  pub malformed-wrong : Err Malformed ≡ tagged_at s at tag least most → Wrong s at tag least most
  malformed-wrong q = subst (Says s at tag least most) (sym q) (says s at tag least most a)

pub wrong : (s : List ℕ) (at tag least most : ℕ) → Wrong s at tag least most → Err Malformed ≡ tagged_at s at tag least most
wrong s at tag least most (of-tag h d) = tagged-malformed s at tag least most h d
wrong s at tag least most (of_size t l q) =
    sized-malformed s (at + 3) least most (size_of s at) q ∙ tagged-sized s at tag least most (omega arith) t l (size_of s at) refl

-- the height that a record's four bytes say
abbrev pub height_of : List ℕ → ℕ
height_of s = big_endian (get_or s 3 0 ∷ get_or s 4 0 ∷ get_or s 5 0 ∷ get_or s 6 0 ∷ [])

-- a record, by its fields: the first that is not read, or all three
module _ (s : List ℕ) (size : ℕ) where
  pub height-stops : {w : Unread} → Err w ≡ tagged_at s 0 1 4 4 → Err w ≡ record_at s size
  unfolding record_at
  height-stops q = rw (← q)

  module _ {e : ℕ} (q : Ok e ≡ tagged_at s 0 1 4 4) where
    pub body-stops : {w : Unread} → Err w ≡ tagged_at s e 2 0 body_most → Err w ≡ record_at s size
    unfolding record_at
    body-stops r = rw (← q, ← r)

    module _ {b : ℕ} (r : Ok b ≡ tagged_at s e 2 0 body_most) where
      pub votes-stop : {w : Unread} → Err w ≡ tagged_at s b 3 size size → Err w ≡ record_at s size
      unfolding record_at
      votes-stop z = rw (← q, ← r, ← z)

      pub votes-end : {v : ℕ} → Ok v ≡ tagged_at s b 3 size size → {h : ℕ} → h ≡ height_of s
          → Ok (record { height = h; body = 10; body_end = b; votes = b + 3; end = v }) ≡ record_at s size
      unfolding record_at
      votes-end z i = rw (← q, ← r, ← z, i)
