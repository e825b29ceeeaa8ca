-- Bodies and parameters there and back: a packed body is read as the fields that were handed over, and parameters that were written are
-- read back.
-- Assumes nothing.
use Rattle.std.proofs.Common.{◌≡◌, ℕ, zero, suc, ◌+◌, ◌-◌, ◌%◌, ◌<◌, ◌≤◌, Bool, true, false, cond, not, ◌&&◌, ◌||◌, eqb, ltb, leb, List, [], ◌∷◌, ◌++◌, length, drop, ℤ, refl, ap, ◌∙◌, subst, add-zero, sub-one, arith, length-append, length-drop, length-set, take_at, drop_at, w32, SFits, ltb-false, ltb-true, le-ltb, eqb-true, leb-false, leb-true}
use mathlib.Core.Path.{subst⁻¹}
use borrow.Author.Tests.{eqb-false}
use lib.Seq.{take-append-le, drop-append-le}
use Rattle.codec.specs.declared.refusal.Refusal.TheVariants.{FieldHeaderCut, ValueCut, InputLong, WrittenValueLong}
use Rattle.codec.specs.Vlq.{vlq_bytes}
use Rattle.codec.specs.Signed.{bits_of}
use Rattle.codec.specs.BigEndian.{big_endian_bytes}
use Rattle.codec.proofs.Laws.BigEndian.{bytes-length, number-back}
use Rattle.codec.proofs.Laws.VlqTrip.{written-read-at, at-most-ten}
use Rattle.voting.specs.Value.{Value}
use Rattle.std.specs.Prelude.{None, Some, Result, Ok, Err, IsOk}
use Rattle.codec.specs.Check.{passed, and_then}
use Rattle.codec.specs.declared.refusal.Refusal.{Refusal}
use Rattle.extension.specs.declared.section.Section.{Section}
use Rattle.voting.proofs.Laws.Tests.{by-test, neither}
use Rattle.extension.specs.declared.parameters.ParameterMap.{ParameterMap}
use Rattle.extension.specs.Section.{bad, Listing, done, stop, item, listing, items, all_read, section, closed, section_items, any}
use Rattle.extension.specs.Body.{Field, parameter_key, read_field, fields_from, extension_of, fields_in, fields_of, id_in, header_id, wrong_size, wrong_parameter, check_body}
use Rattle.extension.specs.Parameters.{no_parameters, entry_of, store, number_in, taken, parameters_in, parameters_of}
use Rattle.extension.proofs.Laws.Section.{listing-item}
use Rattle.extension.proofs.Laws.Parameters.{store_same, store_other, no-entry, no_length}
use Rattle.extension.proofs.Laws.Body.{check-body-by}
use Rattle.extension.specs.Pack.{wire_at, wire_list, wire_fields, long_value, check_fields, packed}
use Rattle.extension.proofs.Laws.Pack.{size_at, field_there, wire-header-cut, wire-value-cut, wire-here, value-length, wire-none, wire-end, wire-stop, wire-item}
use Rattle.extension.proofs.Laws.PackTrip.{field-here, size-there, field-there, Lists, fine, Held, Sound}
use Rattle.writers.specs.Pack.{PackedBack, number_bytes, entry_bytes, entries_from, parameter_bytes, ParametersBack}
use Rattle.writers.specs.Fields.{field_bytes, fields_bytes}
use Rattle.writers.proofs.Laws.Fields.{fields-listed}
use Rattle.writers.proofs.Laws.Pack.{entries-most}

-- a listing that ends with no refusal; and a listing with its last position further on by b
abbrev Whole : Listing Field → Type 0
Whole (done at) = Unit {0}
Whole (stop e) = ⊥
Whole (item f l) = Whole l

abbrev moved : ℕ → Listing Field → Listing Field
moved b (done at) = done (b + at)
moved b (stop e) = stop e
moved b (item f l) = item f (moved b l)

moved-items : (b : ℕ) (l : Listing Field) → items (moved b l) ≡ items l
unfolding items
moved-items b (done at) = refl
moved-items b (stop e) = refl
moved-items b (item f l) = ap (λ (fs : List Field). f ∷ fs) (moved-items b l)

-- what a section says once its items are read
abbrev last_of : Listing Field → ℕ
last_of (done at) = at
last_of (stop e) = 0
last_of (item f l) = last_of l

closed-whole : (n b k : ℕ) (l : Listing Field) → Whole l → closed n b (moved k l) ≡ Ok (section n b (k + last_of l))
unfolding closed
closed-whole n b k (done at) w = refl
closed-whole n b k (stop e) w = absurd w
closed-whole n b k (item f l) w = closed-whole n b k l w

-- the three things that may stand at a position of a list of fields
by-wire : {P : Type 0} (s : List ℕ) (at : ℕ) → (wire_at s at ≡ bad FieldHeaderCut → P) → (wire_at s at ≡ bad ValueCut → P) → (at + 3 + size_at s at ≤ length s → P) → P
by-wire s at f g h =
    by-test (ltb (length s) (at + 3)) (λ e. f (wire-header-cut s at (ltb-true (length s) (at + 3) e)))
    (λ e. by-test (ltb (length s) (at + 3 + size_at s at))
    (λ q. g (wire-value-cut s at (ltb-false (length s) (at + 3) e) (ltb-true (length s) (at + 3 + size_at s at) q)))
    (λ q. h (ltb-false (length s) (at + 3 + size_at s at) q)))

-- the fields of a list that is not cut and has no long value are what a body's reader takes from where the list begins
module _ (body : List ℕ) (b : ℕ) where
  abbrev Reads : ℕ → Listing Field → Type 0
  Reads at l = all_read l ≡ passed → any long_value (items l) ≡ false → Whole l × (listing (read_field body) (length (items l)) (b + at) ≡ moved b l)

  one_field : (at : ℕ) (l : Listing Field) → at + 3 + size_at (drop b body) at ≤ length (drop b body) → Reads (at + 3 + size_at (drop b body) at) l
      → Reads at (item (field_there (drop b body) at) l)
  unfolding all_read items any long_value
  one_field at l i f r a =
      let s = drop b body in
      let v = value-length s at i in
      let n = neither (ltb 64 (length (field_there s at).value)) (any long_value (items l)) a in
      let m = ltb-false 64 (length (field_there s at).value) n.0 in
      let rest = f r n.1 in
      (rest.0, reads v m rest.1)
    where
      reads : length (field_there (drop b body) at).value ≡ size_at (drop b body) at → length (field_there (drop b body) at).value ≤ 64
          → listing (read_field body) (length (items l)) (b + (at + 3 + size_at (drop b body) at)) ≡ moved b l
          → listing (read_field body) (suc (length (items l))) (b + at) ≡ item (field_there (drop b body) at) (moved b l)
      reads v m e =
          let z = size-there body b at in
          let d = length-drop b body in
          let next : b + at + 3 + size_at body (b + at) ≡ b + (at + 3 + size_at (drop b body) at) = omega (arith, z) in
          let h = field-here body (b + at) (omega (arith, z, d, i)) (omega (arith, z, v, m)) in
          listing-item (read_field body) (suc (length (items l))) (b + at) (omega arith) (field_there (drop b body) at) (b + (at + 3 + size_at (drop b body) at))
          (h ∙ rw (← field-there body b at, next)) ∙ rw (sub-one, e)

  no_field : (at : ℕ) → Reads at (done at)
  unfolding items listing
  no_field at r a = (tt, refl)

  reads-wire : (k at : ℕ) → Reads at (wire_list k (drop b body) at)
  unfolding all_read
  reads-wire zero at = subst⁻¹ (Reads at) (wire-none (drop b body) 0 at (omega arith)) (no_field at)
  reads-wire (suc k) at =
      let s = drop b body in
      let p : 0 < suc k = omega arith in
      by-test (leb (length s) at) (λ e. subst⁻¹ (Reads at) (wire-end s (suc k) at p (leb-true (length s) at e)) (no_field at))
      (λ e. let l : at < length s = leb-false (length s) at e in
      by-wire s at
      (λ q. subst⁻¹ (Reads at) (wire-stop s (suc k) at p l FieldHeaderCut q) (λ r a. cc))
      (λ q. subst⁻¹ (Reads at) (wire-stop s (suc k) at p l ValueCut q) (λ r a. cc))
      (λ i. subst⁻¹ (Reads at) (wire-item s (suc k) at p l (field_there s at) (at + 3 + size_at s at) (wire-here s at i))
      (rw sub-one (one_field at (wire_list k s (at + 3 + size_at s at)) i (reads-wire k (at + 3 + size_at s at))))))

-- what a list that is not refused has: at most 65,536 fields, no long value, and no cut
accepted-fields : (l : Listing Field) → check_fields l ≡ passed → (length (items l) ≤ 65536) × (any long_value (items l) ≡ false) × (all_read l ≡ passed)
unfolding check_fields
accepted-fields l = go (ltb 65536 (length (items l))) (any long_value (items l)) refl refl
  where
    go : (s t : Bool) → ltb 65536 (length (items l)) ≡ s → any long_value (items l) ≡ t → cond s (Err InputLong) (cond t (Err WrittenValueLong) (all_read l)) ≡ passed
        → (length (items l) ≤ 65536) × (any long_value (items l) ≡ false) × (all_read l ≡ passed)
    go true t p q e = cc
    go false true p q e = cc
    go false false p q e = (ltb-false 65536 (length (items l)) p, q, e)

-- a body that is an id, a count and a list of as many fields
module _ (id fields : List ℕ) (l : length id ≡ 32) (ok : check_fields (wire_fields fields) ≡ passed) (room : length (packed id fields) ≤ 65536) where
  abbrev many : ℕ
  many = length (items (wire_fields fields))

  abbrev full : List ℕ
  full = packed id fields

  abbrev first : ℕ
  first = 32 + length (vlq_bytes many)

  front : length (id ++ vlq_bytes many) ≡ first
  front = rw (length-append id (vlq_bytes many), l)

  after-id : drop 32 full ≡ vlq_bytes many ++ fields
  unfolding packed
  after-id = drop-append-le 32 (id ++ vlq_bytes many) fields (omega (arith, front)) ∙ rw (drop_at id (vlq_bytes many) 32 l)

  long : 32 ≤ length full
  unfolding packed
  long = omega (arith, length-append (id ++ vlq_bytes many) fields, front)

  after-count : drop first full ≡ fields
  unfolding packed
  after-count = drop_at (id ++ vlq_bytes many) fields first front

  reads_all : Whole (wire_fields fields) × (listing (read_field full) many first ≡ moved first (wire_fields fields))
  unfolding wire_fields
  reads_all =
      let f = accepted-fields (wire_fields fields) ok in
      rw (after-count, add-zero) at (reads-wire full first (length fields) 0 (rw after-count f.2) (rw after-count f.1))

  parsed-is : extension_of full ≡ Ok (section many first (first + last_of (wire_fields fields)))
  unfolding extension_of fields_from
  parsed-is =
      let f = accepted-fields (wire_fields fields) ok in
      rw (le-ltb 65536 (length full) room, le-ltb (length full) 32 long, written-read-at 32 many 32 full fields (omega arith) (omega (arith, f.0)) after-id, reads_all.1)
      (closed-whole many first first (wire_fields fields) reads_all.0)

  pub packed-back : PackedBack id fields
  unfolding fields_of fields_in header_id id_in section_items packed
  packed-back = record {
    parsed = rw parsed-is;
    same_id = rw parsed-is (take-append-le 32 (id ++ vlq_bytes many) fields (omega (arith, front)) ∙ take_at id (vlq_bytes many) 32 l);
    same-fields = rw (parsed-is, reads_all.1) (moved-items first (wire_fields fields));
  }

-- Parameters. The fields that the bytes of parameters are.
abbrev entry_field : ℕ → ℤ → Field
entry_field id z = record { key0 = 0; key1 = id; value = big_endian_bytes 4 (bits_of 32 z) }

abbrev entry_fields : ℕ → Value → List Field
entry_fields id None = []
entry_fields id (Some z) = cond (eqb id 124) [] (entry_field id z ∷ [])

unfoldable fields_for : ℕ → ℕ → ParameterMap → List Field
fields_for zero id m = []
fields_for (suc n) id m = entry_fields id (entry_of m id) ++ fields_for n ((id + 1) % 256) m

-- none of them long, and no more of them than ids
entry-short : (id : ℕ) (v : Value) (fs : List Field) → any long_value fs ≡ false → any long_value (entry_fields id v ++ fs) ≡ false
unfolding any long_value big_endian_bytes
entry-short id None fs e = e
entry-short id (Some z) fs e = go (eqb id 124)
  where
    go : (t : Bool) → any long_value (cond t [] (entry_field id z ∷ []) ++ fs) ≡ false
    go true = e
    go false = e

all_short : (m : ParameterMap) (n id : ℕ) → any long_value (fields_for n id m) ≡ false
unfolding fields_for any
all_short m zero id = refl
all_short m (suc n) id = entry-short id (entry_of m id) (fields_for n ((id + 1) % 256) m) (all_short m n ((id + 1) % 256))

entry-once : (id : ℕ) (v : Value) (fs : List Field) → length (entry_fields id v ++ fs) ≤ suc (length fs)
entry-once id None fs = omega arith
entry-once id (Some z) fs = go (eqb id 124)
  where
    go : (t : Bool) → length (cond t [] (entry_field id z ∷ []) ++ fs) ≤ suc (length fs)
    go true = omega arith
    go false = omega arith

all_once : (m : ParameterMap) (n id : ℕ) → length (fields_for n id m) ≤ n
unfolding fields_for
all_once m zero id = omega arith
all_once m (suc n) id = omega (arith, entry-once id (entry_of m id) (fields_for n ((id + 1) % 256) m), all_once m n ((id + 1) % 256))

-- the bytes of parameters are the bytes of these fields
entry-is : (id : ℕ) (v : Value) (fs : List Field) → entry_bytes id v ++ fields_bytes fs ≡ fields_bytes (entry_fields id v ++ fs)
unfolding entry_bytes fields_bytes field_bytes big_endian_bytes
entry-is id None fs = refl
entry-is id (Some z) fs = go (eqb id 124)
  where
    go : (t : Bool) → cond t [] (number_bytes id z) ++ fields_bytes fs ≡ fields_bytes (cond t [] (entry_field id z ∷ []) ++ fs)
    go true = refl
    go false = refl

entries-are : (m : ParameterMap) (n id : ℕ) → entries_from n id m ≡ fields_bytes (fields_for n id m)
unfolding entries_from fields_for fields_bytes
entries-are m zero id = refl
entries-are m (suc n) id =
    let next = (id + 1) % 256 in
    rw (entries-are m n next) (entry-is id (entry_of m id) (fields_for n next m))

parameters-listed : (m : ParameterMap) → Lists (fields_for 256 128 m) (wire_fields (parameter_bytes m))
unfolding parameter_bytes
parameters-listed m = rw (entries-are m 256 128) (fields-listed (fields_for 256 128 m))

-- the entries after one parameter was read
abbrev stored : ℕ → Value → ParameterMap → ParameterMap
stored id None m = m
stored id (Some z) m = cond (eqb id 124) m (store m id (Some z))

entry-taken : (id : ℕ) (z : ℤ) (m : ParameterMap) → SFits w32 z → eqb id 124 ≡ false → taken (entry_field id z) m ≡ store m id (Some z)
unfolding taken parameter_key number_in
entry-taken id z m f e = rw (e, bytes-length 4 (bits_of 32 z), number-back z f)

take-entry : (id : ℕ) (v : Value) (fs : List Field) (m : ParameterMap) → Held v → parameters_in (entry_fields id v ++ fs) m ≡ parameters_in fs (stored id v m)
unfolding parameters_in
take-entry id None fs m h = refl
take-entry id (Some z) fs m h = go (eqb id 124) refl
  where
    go : (t : Bool) → eqb id 124 ≡ t → parameters_in (cond t [] (entry_field id z ∷ []) ++ fs) m ≡ parameters_in fs (cond t m (store m id (Some z)))
    go true e = refl
    go false e = ap (parameters_in fs) (entry-taken id z m h e)

stored-length : (id : ℕ) (v : Value) (m : ParameterMap) → length (stored id v m).entries ≡ length m.entries
stored-length id None m = refl
stored-length id (Some z) m = go (eqb id 124)
  where
    go : (t : Bool) → length (cond t m (store m id (Some z))).entries ≡ length m.entries
    go true = refl
    go false = length-set m.entries id (Some z)

stored_other : (id at : ℕ) (v : Value) (m : ParameterMap) → (at ≡ id → ⊥) → entry_of (stored id v m) at ≡ entry_of m at
stored_other id at None m n = refl
stored_other id at (Some z) m n = go (eqb id 124)
  where
    go : (t : Bool) → entry_of (cond t m (store m id (Some z))) at ≡ entry_of m at
    go true = refl
    go false = store_other m id at (Some z) n

stored_same : (id : ℕ) (v : Value) (m : ParameterMap) → id < length m.entries → entry_of m id ≡ None → entry_of (stored id v m) id ≡ cond (eqb id 124) None v
stored_same id None m h e = e ∙ go (eqb id 124)
  where
    go : (t : Bool) → ◌≡◌ {A = Value} None (cond t None None)
    go true = refl
    go false = refl
stored_same id (Some z) m h e = go (eqb id 124)
  where
    go : (t : Bool) → entry_of (cond t m (store m id (Some z))) id ≡ cond t None (Some z)
    go true = e
    go false = store_same m id (Some z) h

-- an id that is not among the n ids from one on keeps its entry; one that is among them gets the entry that was written
module _ (m : ParameterMap) (held : (id : ℕ) → Held (entry_of m id)) (id : ℕ) (small : id < 256) where
  skipped : (n from : ℕ) (a : ParameterMap) → from < 256 → n ≤ (id + 256 - from) % 256 → entry_of (parameters_in (fields_for n from m) a) id ≡ entry_of a id
  unfolding fields_for parameters_in
  skipped zero from a f h = refl
  skipped (suc n) from a f h =
      let next = (from + 1) % 256 in
      ap (λ (x : ParameterMap). entry_of x id) (take-entry from (entry_of m from) (fields_for n next m) a (held from)) ∙
      skipped n next (stored from (entry_of m from) a) (omega arith) (omega arith) ∙
      stored_other from id (entry_of m from) a (λ e. omega arith)

  reached : (n from : ℕ) (a : ParameterMap) → from < 256 → n ≤ 256 → (id + 256 - from) % 256 < n → length a.entries ≡ 256 → entry_of a id ≡ None
      → entry_of (parameters_in (fields_for n from m) a) id ≡ cond (eqb id 124) None (entry_of m id)
  unfolding fields_for parameters_in
  reached zero from a f h i l e = absurd (omega arith)
  reached (suc n) from a f h i l e =
      let next = (from + 1) % 256 in
      ap (λ (x : ParameterMap). entry_of x id) (take-entry from (entry_of m from) (fields_for n next m) a (held from)) ∙
      by-test (eqb id from)
      (λ t. let q : id ≡ from = eqb-true id from t in
      skipped n next (stored from (entry_of m from) a) (omega arith) (omega arith) ∙
      subst (λ (k : ℕ). entry_of (stored k (entry_of m k) a) id ≡ cond (eqb id 124) None (entry_of m id)) q (stored_same id (entry_of m id) a (omega arith) e))
      (λ t. let q = eqb-false id from t in
      reached n next (stored from (entry_of m from) a) (omega arith) (omega arith) (omega arith) (stored-length from (entry_of m from) a ∙ l) (stored_other from id (entry_of m from) a q ∙ e))

-- the parameters that were written are a list of fields, and taken into the map they are the parameters without 124
parameters-pack : (m : ParameterMap) → check_fields (wire_fields (parameter_bytes m)) ≡ passed
parameters-pack m = fine (wire_fields (parameter_bytes m)) (fields_for 256 128 m) (parameters-listed m) (omega (arith, all_once m 256 128)) (all_short m 256 128)

parameters-taken : (m : ParameterMap) → Sound m → (id : ℕ) → id ≤ 255 → entry_of (parameters_in (fields_for 256 128 m) no_parameters) id ≡ cond (eqb id 124) None (entry_of m id)
parameters-taken m held id h = reached m held id (omega arith) 256 128 no_parameters (omega arith) (omega arith) (omega arith) no_length (no-entry id (omega arith))

-- every one of them has four bytes
entry-right : (id : ℕ) (v : Value) (fs : List Field) → any wrong_parameter fs ≡ false → any wrong_parameter (entry_fields id v ++ fs) ≡ false
unfolding any wrong_parameter wrong_size parameter_key big_endian_bytes
entry-right id None fs e = e
entry-right id (Some z) fs e = go (eqb id 124)
  where
    none : (t : Bool) → (not t && false) || any wrong_parameter fs ≡ false
    none true = e
    none false = e

    go : (t : Bool) → any wrong_parameter (cond t [] (entry_field id z ∷ []) ++ fs) ≡ false
    go true = e
    go false = none (eqb id 124)

all_right : (m : ParameterMap) (n id : ℕ) → any wrong_parameter (fields_for n id m) ≡ false
unfolding fields_for any
all_right m zero id = refl
all_right m (suc n) id = entry-right id (entry_of m id) (fields_for n ((id + 1) % 256) m) (all_right m n ((id + 1) % 256))

-- the body with these fields: it is not too long, passes the check, and its fields are the parameters
module _ (m : ParameterMap) (header : List ℕ) (l : length header ≡ 32) where
  abbrev body : List ℕ
  body = packed header (parameter_bytes m)

  body-room : length body ≤ 65536
  unfolding packed parameter_bytes
  body-room =
      let many = length (items (wire_fields (parameter_bytes m))) in
      let e₁ = length-append (header ++ vlq_bytes many) (parameter_bytes m) in
      let e₂ = length-append header (vlq_bytes many) in
      omega (arith, e₁, e₂, at-most-ten many, entries-most m 256 128)

  body_back : PackedBack header (parameter_bytes m)
  body_back = packed-back header (parameter_bytes m) l (parameters-pack m) body-room

  body-fields : fields_of body ≡ fields_for 256 128 m
  body-fields = body_back.same-fields ∙ (parameters-listed m).0

  body-checked : check_body body ≡ extension_of body
  body-checked = check-body-by body ∙ rw (body-fields, all_right m 256 128)

  abbrev found : ParameterMap
  found = parameters_in (fields_for 256 128 m) no_parameters

  read-of : (r : Result Section Refusal) → IsOk r → fields_in body r ≡ fields_for 256 128 m
      → and_then r (λ x. Ok (parameters_in (section_items (read_field body) x) no_parameters)) ≡ Ok found
  unfolding fields_in
  read-of (Ok x) o f = ap (λ (fs : List Field). Ok (parameters_in fs no_parameters)) f
  read-of (Err e) o f = cc

  body-read : parameters_of body ≡ Ok found
  unfolding parameters_of fields_of
  body-read = rw body-checked (read-of (extension_of body) body_back.parsed body-fields)

  pub parameters-back : Sound m → ParametersBack m header
  parameters-back held = record {
    packs = parameters-pack m;
    checked = rw body-checked body_back.parsed;
    found = found;
    read = body-read;
    same = parameters-taken m held;
  }
