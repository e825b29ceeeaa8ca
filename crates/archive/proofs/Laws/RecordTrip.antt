-- Records there and back; and what more bytes after a record, or after a part of one, do to its reading.
-- Assumes nothing.
use mathlib.Core.Path.{◌≡◌, refl, sym, ap, subst, ◌∙◌}
use mathlib.Core.List.{List, ◌++◌}
use Prim.Native.Nat.{ℕ, ◌+◌, ◌≤◌, ◌<◌}
use native.Mathlib.Omega.{arith}
use lib.ListN.{length, get_or, length-append, get_or-append}
use Rattle.std.specs.Prelude.{Result, Ok, Err}
use Rattle.codec.specs.Check.{and_then}
use Rattle.extension.specs.Section.{part}
use Rattle.extension.proofs.Laws.Parts.{part_length}
use Rattle.archive.specs.declared.record.Unread.{Unread}
use Rattle.archive.specs.declared.record.Unread.TheVariants.{Short, Malformed}
use Rattle.archive.specs.declared.record.RecordPlace.{RecordPlace}
use Rattle.archive.specs.Record.{body_most, tagged_at, record_at}
use Rattle.archive.proofs.Laws.Record.{size_of, height_of, Here, here, Missing, of-header, of-value, Wrong, of-tag, of_size, wrong, ends-here, short-missing, malformed-wrong, height-stops, body-stops, votes-stop, votes-end}

-- more bytes change nothing of what was read
module _ (s t : List ℕ) where
  longer : length (s ++ t) ≡ length s + length t
  longer = length-append s t

  same_byte : (i : ℕ) → i < length s → get_or (s ++ t) i 0 ≡ get_or s i 0
  same_byte i h = get_or-append s t 0 i h

  same_size : (at : ℕ) → at + 3 ≤ length s → size_of (s ++ t) at ≡ size_of s at
  same_size at h = rw (same_byte (at + 1) (omega arith), same_byte (at + 2) (omega arith))

  module _ (at tag least most : ℕ) where
    here-stays : (e : ℕ) → Here s at tag least most e → Here (s ++ t) at tag least most e
    here-stays e h =
        let i = h.inside in
        let f = h.ends_at in
        let b : at < length s = omega (arith, i, f) in
        let l : at + 3 ≤ length s = omega (arith, i, f) in
        let z = same_size at l in
        record {
          tag_is = same_byte at b ∙ h.tag_is;
          not-less = omega (arith, z, h.not-less);
          not_more = omega (arith, z, h.not_more);
          ends_at = omega (arith, z, f);
          inside = omega (arith, i, longer);
        }

    ends-stays : (e : ℕ) → at ≤ length s → Ok e ≡ tagged_at s at tag least most → Ok e ≡ tagged_at (s ++ t) at tag least most
    ends-stays e a q = here (s ++ t) at tag least most e (here-stays e (ends-here s at tag least most a e q))

    wrong_stays : Wrong s at tag least most → Wrong (s ++ t) at tag least most
    wrong_stays (of-tag h d) = of-tag (omega (arith, longer)) (λ q. d (sym (same_byte at h) ∙ q))
    wrong_stays (of_size b l q) = of_size (same_byte at (omega arith) ∙ b) (omega (arith, longer)) (rw (same_size at l) q)

    field-malformed-stays : at ≤ length s → Err Malformed ≡ tagged_at s at tag least most → Err Malformed ≡ tagged_at (s ++ t) at tag least most
    field-malformed-stays a q = wrong (s ++ t) at tag least most (wrong_stays (malformed-wrong s at tag least most a q))

    -- no more bytes than are missing: what then ends, ends with them
    more-exact : (k e : ℕ) → at ≤ length s → Err (Short k) ≡ tagged_at s at tag least most → length t ≤ k → Ok e ≡ tagged_at (s ++ t) at tag least most → e ≡ length (s ++ t)
    more-exact k e a q l r = go (short-missing s at tag least most a k q)
      where
        h : Here (s ++ t) at tag least most e
        h = ends-here (s ++ t) at tag least most (omega (arith, longer)) e r

        go : Missing s at most k → e ≡ length (s ++ t)
        go (of-header p z) = omega (arith, longer, h.ends_at, h.inside)
        go (of-value p b m z) = omega (arith, longer, same_size at b, h.ends_at, h.inside)

-- what stands behind a record that is read, and behind one that is not
pub record Three (s : List ℕ) (size : ℕ) (p : RecordPlace) : Type 0 where
  pub e : ℕ
  pub is-seven : e ≡ 7
  pub height-ends : Ok e ≡ tagged_at s 0 1 4 4
  pub body-ends : Ok p.body_end ≡ tagged_at s e 2 0 body_most
  pub votes-ends : Ok p.end ≡ tagged_at s p.body_end 3 size size
  pub height-is : p.height ≡ height_of s
  pub body_is : p.body ≡ 10
  pub votes-is : p.votes ≡ p.body_end + 3

pub data StopsBy (s : List ℕ) (size : ℕ) (w : Unread) : Type 0 where
  of-height : Err w ≡ tagged_at s 0 1 4 4 → StopsBy s size w
  of-body : (e : ℕ) → e ≡ 7 → Ok e ≡ tagged_at s 0 1 4 4 → Err w ≡ tagged_at s e 2 0 body_most → StopsBy s size w
  of-votes : (e b : ℕ) → e ≡ 7 → Ok e ≡ tagged_at s 0 1 4 4 → Ok b ≡ tagged_at s e 2 0 body_most → Err w ≡ tagged_at s b 3 size size → StopsBy s size w

abbrev View : List ℕ → ℕ → Result RecordPlace Unread → Type 0
View s size (Ok p) = Three s size p
View s size (Err w) = StopsBy s size w

-- where the fields of a record end
module _ (s : List ℕ) (e : ℕ) (q : Ok e ≡ tagged_at s 0 1 4 4) where
  pub at-seven : e ≡ 7
  at-seven = let h = ends-here s 0 1 4 4 (omega arith) e q in omega (arith, h.ends_at, h.not-less, h.not_more)

  pub height-inside : e ≤ length s
  height-inside = (ends-here s 0 1 4 4 (omega arith) e q).inside

  module _ (b : ℕ) (r : Ok b ≡ tagged_at s e 2 0 body_most) where
    body-here : Here s e 2 0 body_most b
    body-here = ends-here s e 2 0 body_most height-inside b r

    pub body-inside : b ≤ length s
    body-inside = body-here.inside

    pub body-least : 10 ≤ b
    body-least = omega (arith, at-seven, body-here.ends_at)

    pub body-limit : b ≤ 10 + body_most
    body-limit = omega (arith, at-seven, body-here.ends_at, body-here.not_more)

-- the record that its fields say
abbrev placed : List ℕ → ℕ → ℕ → RecordPlace
placed s b v = record { height = height_of s; body = 10; body_end = b; votes = b + 3; end = v }

view : (s : List ℕ) (size : ℕ) → View s size (record_at s size)
unfolding record_at
view s size = of-fields (tagged_at s 0 1 4 4) refl
  where
    in-votes : (e b : ℕ) → e ≡ 7 → Ok e ≡ tagged_at s 0 1 4 4 → Ok b ≡ tagged_at s e 2 0 body_most → (z : Result ℕ Unread) → z ≡ tagged_at s b 3 size size
        → View s size (and_then z (λ v. Ok (placed s b v)))
    in-votes e b f q r (Ok v) i =
        record { e = e; is-seven = f; height-ends = q; body-ends = r; votes-ends = i; height-is = refl; body_is = refl; votes-is = refl }
    in-votes e b f q r (Err w) i = of-votes e b f q r i

    in-body : (e : ℕ) → e ≡ 7 → Ok e ≡ tagged_at s 0 1 4 4 → (y : Result ℕ Unread) → y ≡ tagged_at s e 2 0 body_most
        → View s size (and_then y (λ b. and_then (tagged_at s b 3 size size) (λ v. Ok (placed s b v))))
    in-body e f q (Ok b) i = in-votes e b f q i (tagged_at s b 3 size size) refl
    in-body e f q (Err w) i = of-body e f q i

    of-fields : (x : Result ℕ Unread) → x ≡ tagged_at s 0 1 4 4
        → View s size (and_then x (λ e. and_then (tagged_at s e 2 0 body_most) (λ b. and_then (tagged_at s b 3 size size) (λ v. Ok (placed s b v)))))
    of-fields (Ok e) i = in-body e (at-seven s e i) i (tagged_at s e 2 0 body_most) refl
    of-fields (Err w) i = of-height i

module _ (s : List ℕ) (size : ℕ) where
  pub whole-three : (p : RecordPlace) → Ok p ≡ record_at s size → Three s size p
  whole-three p q = subst (View s size) (sym q) (view s size)

  pub stops-by : {w : Unread} → Err w ≡ record_at s size → StopsBy s size w
  stops-by q = subst (View s size) (sym q) (view s size)

  pub three-whole : (p : RecordPlace) → Three s size p → Ok p ≡ record_at s size
  three-whole p h = ap Ok (rebuilt p h.body_is h.votes-is) ∙ votes-end s size h.height-ends h.body-ends h.votes-ends h.height-is
    where
      rebuilt : (p : RecordPlace) → p.body ≡ 10 → p.votes ≡ p.body_end + 3
          → p ≡ record { height = p.height; body = 10; body_end = p.body_end; votes = p.body_end + 3; end = p.end }
      rebuilt p b v = rw (← b, ← v)

  pub by-stop : {w : Unread} → StopsBy s size w → Err w ≡ record_at s size
  by-stop (of-height q) = height-stops s size q
  by-stop (of-body e f q r) = body-stops s size q r
  by-stop (of-votes e b f q r z) = votes-stop s size q r z

-- more bytes after a record, or after one that is malformed, change nothing
module _ (s t : List ℕ) (size : ℕ) where
  pub three-stays : (p : RecordPlace) → Three s size p → Three (s ++ t) size p
  three-stays p h =
      let i = body-inside s h.e h.height-ends p.body_end h.body-ends in
      let l = body-least s h.e h.height-ends p.body_end h.body-ends in
      record {
        e = h.e;
        is-seven = h.is-seven;
        height-ends = ends-stays s t 0 1 4 4 h.e (omega arith) h.height-ends;
        body-ends = ends-stays s t h.e 2 0 body_most p.body_end (height-inside s h.e h.height-ends) h.body-ends;
        votes-ends = ends-stays s t p.body_end 3 size size p.end i h.votes-ends;
        height-is = h.height-is ∙ sym (four (omega (arith, i, l)));
        body_is = h.body_is;
        votes-is = h.votes-is;
      }
    where
      four : 7 ≤ length s → height_of (s ++ t) ≡ height_of s
      four l = rw (same_byte s t 3 (omega arith), same_byte s t 4 (omega arith), same_byte s t 5 (omega arith), same_byte s t 6 (omega arith))

  pub whole-stays : (p : RecordPlace) → Ok p ≡ record_at s size → Ok p ≡ record_at (s ++ t) size
  whole-stays p q = three-whole (s ++ t) size p (three-stays p (whole-three s size p q))

  malformed-by-stays : StopsBy s size Malformed → StopsBy (s ++ t) size Malformed
  malformed-by-stays (of-height q) = of-height (field-malformed-stays s t 0 1 4 4 (omega arith) q)
  malformed-by-stays (of-body e f q r) =
      of-body e f (ends-stays s t 0 1 4 4 e (omega arith) q) (field-malformed-stays s t e 2 0 body_most (height-inside s e q) r)
  malformed-by-stays (of-votes e b f q r z) =
      of-votes e b f (ends-stays s t 0 1 4 4 e (omega arith) q) (ends-stays s t e 2 0 body_most b (height-inside s e q) r)
      (field-malformed-stays s t b 3 size size (body-inside s e q b r) z)

  pub malformed-stays : Err Malformed ≡ record_at s size → Err Malformed ≡ record_at (s ++ t) size
  malformed-stays q = by-stop (s ++ t) size (malformed-by-stays (stops-by s size q))

  -- a record that no more bytes than were missing make whole ends with them
  same_end : (x : Result ℕ Unread) (a b : ℕ) → Ok a ≡ x → Ok b ≡ x → a ≡ b
  same_end x a b q r = cc

  exact : (k : ℕ) → StopsBy s size (Short k) → length t ≤ k → (p : RecordPlace) → Three (s ++ t) size p → p.end ≡ length (s ++ t)
  exact k (of-height q) l p h =
      let n : h.e ≡ length (s ++ t) = more-exact s t 0 1 4 4 k h.e (omega arith) q l h.height-ends in
      let i = body-inside (s ++ t) h.e h.height-ends p.body_end h.body-ends in
      let m = body-least (s ++ t) h.e h.height-ends p.body_end h.body-ends in
      absurd (omega (arith, n, i, m, h.is-seven))
  exact k (of-body e f q r) l p h =
      let d : h.e ≡ e = same_end (tagged_at (s ++ t) 0 1 4 4) h.e e h.height-ends (ends-stays s t 0 1 4 4 e (omega arith) q) in
      let n : p.body_end ≡ length (s ++ t) = more-exact s t e 2 0 body_most k p.body_end (height-inside s e q) r l (rw (← d) h.body-ends) in
      let i = ends-here (s ++ t) p.body_end 3 size size (body-inside (s ++ t) h.e h.height-ends p.body_end h.body-ends) p.end h.votes-ends in
      absurd (omega (arith, n, i.inside, i.ends_at))
  exact k (of-votes e b f q r z) l p h =
      let d : h.e ≡ e = same_end (tagged_at (s ++ t) 0 1 4 4) h.e e h.height-ends (ends-stays s t 0 1 4 4 e (omega arith) q) in
      let c : p.body_end ≡ b = same_end (tagged_at (s ++ t) e 2 0 body_most) p.body_end b (rw (← d) h.body-ends) (ends-stays s t e 2 0 body_most b (height-inside s e q) r) in
      more-exact s t b 3 size size k p.end (body-inside s e q b r) z l (rw (← c) h.votes-ends)

  pub whole-exact : (k : ℕ) → Err (Short k) ≡ record_at s size → length t ≤ k → (p : RecordPlace) → Ok p ≡ record_at (s ++ t) size → p.end ≡ length (s ++ t)
  whole-exact k q l p r = exact k (stops-by s size q) l p (whole-three (s ++ t) size p r)

-- bytes are missing, and not more than the longest record has
missing-room : (s : List ℕ) (at most k : ℕ) → Missing s at most k → (0 < k) × (length s + k ≤ at + 3 + most)
missing-room s at most k (of-header p z) = (p, omega arith)
missing-room s at most k (of-value p b m z) = (p, omega arith)

pub short-room : (s : List ℕ) (size k : ℕ) → Err (Short k) ≡ record_at s size → (0 < k) × (length s + k ≤ 13 + body_most + size)
short-room s size k q = go (stops-by s size q)
  where
    go : StopsBy s size (Short k) → (0 < k) × (length s + k ≤ 13 + body_most + size)
    go (of-height r) = let m = missing-room s 0 4 k (short-missing s 0 1 4 4 (omega arith) k r) in (m.0, omega (arith, m.1))
    go (of-body e f q r) =
        let m = missing-room s e body_most k (short-missing s e 2 0 body_most (height-inside s e q) k r) in
        (m.0, omega (arith, m.1, f))
    go (of-votes e b f q r z) =
        let m = missing-room s b size k (short-missing s b 3 size size (body-inside s e q b r) k z) in
        (m.0, omega (arith, m.1, body-limit s e q b r))

-- a whole record lies inside, and has bytes
pub whole-inside : (s : List ℕ) (size : ℕ) (p : RecordPlace) → Ok p ≡ record_at s size → (0 < p.end) × (p.end ≤ length s)
whole-inside s size p q =
    let h = whole-three s size p q in
    let i = ends-here s p.body_end 3 size size (body-inside s h.e h.height-ends p.body_end h.body-ends) p.end h.votes-ends in
    (omega (arith, i.ends_at), i.inside)

-- its votes have the size that was asked for
pub votes-long : (s : List ℕ) (size : ℕ) (p : RecordPlace) → Ok p ≡ record_at s size → length (part s p.votes p.end) ≡ size
votes-long s size p q =
    let h = whole-three s size p q in
    let i = ends-here s p.body_end 3 size size (body-inside s h.e h.height-ends p.body_end h.body-ends) p.end h.votes-ends in
    part_length s p.votes p.end i.inside ∙ omega (arith, h.votes-is, i.ends_at, i.not-less, i.not_more)

-- its parts lie inside
pub record PartsInside (s : List ℕ) (p : RecordPlace) : Type 0 where
  pub body-ordered : p.body ≤ p.body_end
  pub body-in : p.body_end ≤ length s
  pub votes-ordered : p.votes ≤ p.end
  pub votes-in : p.end ≤ length s

pub parts-inside : (s : List ℕ) (size : ℕ) (p : RecordPlace) → Ok p ≡ record_at s size → PartsInside s p
parts-inside s size p q =
    let h = whole-three s size p q in
    let b = body-inside s h.e h.height-ends p.body_end h.body-ends in
    let l = body-least s h.e h.height-ends p.body_end h.body-ends in
    let i = ends-here s p.body_end 3 size size b p.end h.votes-ends in
    record {
      body-ordered = omega (arith, l, h.body_is);
      body-in = b;
      votes-ordered = omega (arith, h.votes-is, i.ends_at);
      votes-in = i.inside;
    }
