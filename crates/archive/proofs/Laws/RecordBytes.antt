-- A record is read exactly where the encoding of its parts stands.
-- Assumes nothing.
use mathlib.Core.Path.{◌≡◌, refl, sym, ap, subst, ◌∙◌}
use mathlib.Core.List.{List, [], ◌∷◌, ◌++◌, append_assoc}
use Prim.Native.Nat.{ℕ, zero, suc, ◌+◌, ◌-◌, ◌^◌, ◌≤◌, ◌<◌}
use native.Mathlib.Nat.{mod-eq_of_lt}
use native.Mathlib.Omega.{arith}
use lib.ListN.{length, get_or, drop, length-append, length-drop}
use lib.Seq.{get_or-drop}
use Rattle.std.specs.Prelude.{Ok}
use Rattle.codec.specs.BigEndian.{big_endian, big_endian_bytes}
use Rattle.codec.proofs.Laws.BigEndian.{bytes-length, number-of-bytes, bytes_small, bytes-of-number}
use Rattle.extension.specs.Section.{part}
use Rattle.extension.proofs.Laws.Parts.{part_length, part_join, part-cons, drop_past}
use Rattle.archive.specs.declared.record.RecordPlace.{RecordPlace}
use Rattle.archive.specs.Record.{tagged_bytes, record_bytes, body_most, record_at, place_of, Encodes, RecordExact}
use Rattle.headers.proofs.Laws.Headers.{drop-three}
use Rattle.archive.proofs.Laws.Record.{size_of, Here, here, ends-here}
use Rattle.archive.proofs.Laws.RecordTrip.{Three, whole-three, three-whole, height-inside}

-- bytes of a list
abbrev pub Small : List ℕ → Type 0
Small s = (i : ℕ) → get_or s i 0 < 256

-- a part by its first three bytes
part-three : (s : List ℕ) (at e : ℕ) → at + 3 ≤ e → e ≤ length s
    → part s at e ≡ get_or s at 0 ∷ get_or s (at + 1) 0 ∷ get_or s (at + 2) 0 ∷ part s (at + 3) e
part-three s at e h l =
    let k : e - at ≡ suc (suc (suc (e - (at + 3)))) = omega arith in
    rw (k, drop-three s at (omega arith))

two-small : (a b : ℕ) → a < 256 → b < 256 → Small (a ∷ b ∷ [])
two-small a b p q zero = p
two-small a b p q (suc zero) = q
two-small a b p q (suc (suc i)) = omega arith

-- a tagged field that is there is the encoding of its value
tagged-bytes : (s : List ℕ) (at tag least most e : ℕ) → Small s → Here s at tag least most e → part s at e ≡ tagged_bytes tag (part s (at + 3) e)
unfolding tagged_bytes
tagged-bytes s at tag least most e small h =
    let i = h.inside in
    let f = h.ends_at in
    let l : length (part s (at + 3) e) ≡ size_of s at = part_length s (at + 3) e i ∙ omega (arith, f) in
    let b = bytes-of-number (get_or s (at + 1) 0 ∷ get_or s (at + 2) 0 ∷ []) (two-small (get_or s (at + 1) 0) (get_or s (at + 2) 0) (small (at + 1)) (small (at + 2))) in
    part-three s at e (omega (arith, f)) i ∙ rw (h.tag_is, l, b)

-- a record that is read is the encoding of its parts
module _ (s : List ℕ) (size : ℕ) (small : Small s) (p : RecordPlace) (t : Three s size p) where
  body_at : Here s 7 2 0 body_most p.body_end
  body_at =
      subst (λ (k : ℕ). Here s k 2 0 body_most p.body_end) t.is-seven
      (ends-here s t.e 2 0 body_most (height-inside s t.e t.height-ends) p.body_end t.body-ends)

  height-at : Here s 0 1 4 4 7
  height-at = subst (Here s 0 1 4 4) t.is-seven (ends-here s 0 1 4 4 (omega arith) t.e t.height-ends)

  votes-at : Here s p.body_end 3 size size p.end
  votes-at = ends-here s p.body_end 3 size size body_at.inside p.end t.votes-ends

  four : part s 3 7 ≡ get_or s 3 0 ∷ get_or s 4 0 ∷ get_or s 5 0 ∷ get_or s 6 0 ∷ []
  four = part-three s 3 7 (omega arith) height-at.inside ∙ ap (λ (x : List ℕ). get_or s 3 0 ∷ get_or s 4 0 ∷ get_or s 5 0 ∷ x) (part-cons s 6 0 (omega (arith, height-at.inside)))

  four-small : Small (get_or s 3 0 ∷ get_or s 4 0 ∷ get_or s 5 0 ∷ get_or s 6 0 ∷ [])
  four-small zero = small 3
  four-small (suc zero) = small 4
  four-small (suc (suc zero)) = small 5
  four-small (suc (suc (suc zero))) = small 6
  four-small (suc (suc (suc (suc i)))) = omega arith

  height-bytes : big_endian_bytes 4 p.height ≡ part s 3 7
  height-bytes = ap (big_endian_bytes 4) t.height-is ∙ bytes-of-number (get_or s 3 0 ∷ get_or s 4 0 ∷ get_or s 5 0 ∷ get_or s 6 0 ∷ []) four-small ∙ sym four

  whole-bytes : record_bytes p.height (part s 10 p.body_end) (part s (p.body_end + 3) p.end) ≡ part s 0 p.end
  unfolding record_bytes
  whole-bytes =
      let a = tagged-bytes s 0 1 4 4 7 small height-at in
      let b = tagged-bytes s 7 2 0 body_most p.body_end small body_at in
      let c = tagged-bytes s p.body_end 3 size size p.end small votes-at in
      let f = body_at.ends_at in
      let g = votes-at.ends_at in
      rw (height-bytes, ← a, ← b, ← c, part_join s 0 7 p.body_end (omega arith) (omega (arith, f)), part_join s 0 p.body_end p.end (omega arith) (omega (arith, g)))

  encodes : Encodes s size p
  encodes =
      let f = body_at.ends_at in
      let g = votes-at.ends_at in
      let z = bytes_small (get_or s 3 0 ∷ get_or s 4 0 ∷ get_or s 5 0 ∷ get_or s 6 0 ∷ []) four-small in
      record {
        height-fits = omega (arith, t.height-is, z);
        body-most = rw (t.body_is, part_length s 10 p.body_end body_at.inside) (omega (arith, f, body_at.not_more));
        votes-size = rw (t.votes-is, part_length s (p.body_end + 3) p.end votes-at.inside) (omega (arith, g, votes-at.not-less, votes-at.not_more));
        bytes = rw (t.body_is, t.votes-is) whole-bytes;
      }

-- the encoding of a value at a position is a tagged field there
stands : (s : List ℕ) (at tag least most : ℕ) (v rest : List ℕ) → at ≤ length s → drop at s ≡ tagged_bytes tag v ++ rest → least ≤ length v → length v ≤ most → length v < 2 ^ 16
    → Here s at tag least most (at + 3 + length v)
unfolding tagged_bytes big_endian_bytes
stands s at tag least most v rest a e l m k =
    let n : length (drop at s) ≡ suc (length (big_endian_bytes 2 (length v) ++ v)) + length rest = ap length e ∙ length-append (tag ∷ big_endian_bytes 2 (length v) ++ v) rest in
    let o : length (big_endian_bytes 2 (length v) ++ v) ≡ 2 + length v = length-append (big_endian_bytes 2 (length v)) v ∙ rw (bytes-length 2 (length v)) in
    let d = length-drop at s in
    let z : size_of s at ≡ length v = size_is in
    record {
      tag_is = byte 0 at (omega arith) ∙ ap (λ (t : List ℕ). get_or t 0 0) e;
      not-less = omega (arith, z);
      not_more = omega (arith, z);
      ends_at = omega (arith, z);
      inside = omega (arith, n, o, d);
    }
  where
    byte : (i k : ℕ) → k ≡ at + i → get_or s k 0 ≡ get_or (drop at s) i 0
    byte i k q = ap (λ (j : ℕ). get_or s j 0) q ∙ sym (get_or-drop at s i 0)

    size_is : size_of s at ≡ length v
    size_is =
        rw (byte 1 (at + 1) refl, byte 2 (at + 2) refl, e) (number-of-bytes 2 (length v) ∙ mod-eq_of_lt k)

-- an encoding is read
module _ (height : ℕ) (body votes rest : List ℕ) (f : height < 2 ^ 32) (b : length body ≤ body_most) (k : length votes < 2 ^ 16) where
  abbrev full : List ℕ
  full = record_bytes height body votes ++ rest

  first-at : drop 0 full ≡ tagged_bytes 1 (big_endian_bytes 4 height) ++ (tagged_bytes 2 body ++ (tagged_bytes 3 votes ++ rest))
  unfolding record_bytes
  first-at =
      append_assoc (tagged_bytes 1 (big_endian_bytes 4 height) ++ tagged_bytes 2 body) (tagged_bytes 3 votes) rest
      ∙ append_assoc (tagged_bytes 1 (big_endian_bytes 4 height)) (tagged_bytes 2 body) (tagged_bytes 3 votes ++ rest)

  tagged-length : (tag : ℕ) (v : List ℕ) → length (tagged_bytes tag v) ≡ 3 + length v
  unfolding tagged_bytes
  tagged-length tag v = length-append (tag ∷ big_endian_bytes 2 (length v)) v ∙ rw (bytes-length 2 (length v))

  four-long : length (tagged_bytes 1 (big_endian_bytes 4 height)) ≡ 7
  four-long = tagged-length 1 (big_endian_bytes 4 height) ∙ rw (bytes-length 4 height)

  second_at : drop 7 full ≡ tagged_bytes 2 body ++ (tagged_bytes 3 votes ++ rest)
  second_at =
      let e : 7 ≡ 0 + length (tagged_bytes 1 (big_endian_bytes 4 height)) = omega (arith, four-long) in
      ap (λ (n : ℕ). drop n full) e ∙ drop_past 0 full (tagged_bytes 1 (big_endian_bytes 4 height)) (tagged_bytes 2 body ++ (tagged_bytes 3 votes ++ rest)) first-at

  third_at : drop (10 + length body) full ≡ tagged_bytes 3 votes ++ rest
  third_at =
      let e : 10 + length body ≡ 7 + length (tagged_bytes 2 body) = omega (arith, tagged-length 2 body) in
      ap (λ (n : ℕ). drop n full) e ∙ drop_past 7 full (tagged_bytes 2 body) (tagged_bytes 3 votes ++ rest) second_at

  height-stands : Here full 0 1 4 4 7
  height-stands =
      let l = bytes-length 4 height in
      subst (λ (n : ℕ). Here full 0 1 4 4 (3 + n)) l
      (stands full 0 1 4 4 (big_endian_bytes 4 height) (tagged_bytes 2 body ++ (tagged_bytes 3 votes ++ rest)) (omega arith) first-at (omega (arith, l)) (omega (arith, l)) (omega (arith, l)))

  body-stands : Here full 7 2 0 body_most (10 + length body)
  body-stands = stands full 7 2 0 body_most body (tagged_bytes 3 votes ++ rest) height-stands.inside second_at (omega arith) b (omega (arith, b))

  votes-stand : Here full (10 + length body) 3 (length votes) (length votes) (10 + length body + 3 + length votes)
  votes-stand = stands full (10 + length body) 3 (length votes) (length votes) votes rest body-stands.inside third_at (omega arith) (omega arith) k

  height-there : height ≡ big_endian (get_or full 3 0 ∷ get_or full 4 0 ∷ get_or full 5 0 ∷ get_or full 6 0 ∷ [])
  unfolding tagged_bytes big_endian_bytes
  height-there =
      sym (ap (λ (l : List ℕ). big_endian (get_or l 3 0 ∷ get_or l 4 0 ∷ get_or l 5 0 ∷ get_or l 6 0 ∷ [])) first-at ∙ number-of-bytes 4 height ∙ mod-eq_of_lt f)

  read_back : record_at full (length votes) ≡ Ok (place_of height (length body) (length votes))
  read_back =
      sym (three-whole full (length votes) (place_of height (length body) (length votes))
      (record {
        e = 7;
        is-seven = refl;
        height-ends = here full 0 1 4 4 7 height-stands;
        body-ends = here full 7 2 0 body_most (10 + length body) body-stands;
        votes-ends = here full (10 + length body) 3 (length votes) (length votes) (10 + length body + 3 + length votes) votes-stand;
        height-is = height-there;
        body_is = refl;
        votes-is = refl;
      }))

pub record-exact : (s : List ℕ) (size : ℕ) → Small s → RecordExact s size
record-exact s size small =
    record {
      is-encoded = λ p q. encodes s size small p (whole-three s size p (sym q));
      is_read = λ height body votes rest f b v k e.
          subst (λ (n : ℕ). record_at s n ≡ Ok (place_of height (length body) n)) v
          (subst (λ (t : List ℕ). record_at t (length votes) ≡ Ok (place_of height (length body) (length votes))) (sym e)
          (read_back height body votes rest f b (subst (λ (n : ℕ). n < 2 ^ 16) (sym v) k)));
    }
