-- Fields written from lists: the tests before, the stores one field after another, and a list of fields that is walked gives the same fields.
-- Assumes nothing.
use Rattle.std.proofs.Common.{Err, ◌≡◌, ℕ, zero, suc, ◌+◌, ◌-◌, ◌*◌, ◌<◌, ◌≤◌, Bool, true, false, cond, not, eqb, ltb, List, [], ◌∷◌, ◌++◌, length, get_or, take, drop, sym, refl, ap, ◌∙◌, add-zero, add-one, sub-one, arith, length-append, length-drop, drop_of_length-le, length-take-le, get_or-drop, drop-cons, drop-drop, ltb-false, le-ltb, lt-ltb, eq-eqb, ne_eqb, eqb-true}
use mathlib.Core.Path.{subst⁻¹}
use lib.Seq.{take-append_seam, sets}
use Rattle.codec.specs.declared.refusal.Refusal.{Refusal}
use Rattle.codec.specs.Check.{passed}
use Rattle.codec.specs.declared.refusal.Refusal.TheVariants.{FieldHeaderCut, ValueCut, InputLong, WrittenValueLong}
use Rattle.codec.specs.Output.{refused, writes}
use Rattle.codec.proofs.Laws.Output.{sets-append, writing-stop, writing-go}
use Rattle.voting.proofs.Laws.Tests.{neither}
use Rattle.extension.specs.Section.{items, all_read, any}
use Rattle.extension.specs.Body.{Field}
use Rattle.extension.specs.Encode.{sum}
use Rattle.extension.specs.Pack.{wire_list, wire_fields, long_value}
use Rattle.extension.proofs.Laws.Parts.{drop_past}
use Rattle.extension.proofs.Laws.Pack.{size_at, field_there, wire-here, wire-item}
use Rattle.extension.proofs.Laws.PackTrip.{Lists, wire-past}
use Rattle.writers.specs.Fields.{field_list, field_bytes, fields_bytes, long_size, check_lists, pack_fields}
use Rattle.writers.proofs.Laws.Sizes.{none_above, sum-here, take-most}

-- the refusal, test by test
module _ (keys sizes values : List ℕ) where
  pub many-sizes : 65536 < length sizes → Err InputLong ≡ check_lists keys sizes values
  unfolding check_lists
  many-sizes h = rw (lt-ltb 65536 (length sizes) h)

  module _ (h₁ : length sizes ≤ 65536) {a : Bool} (q : a ≡ any long_size sizes) where
    pub long-size : a ≡ true → Err WrittenValueLong ≡ check_lists keys sizes values
    unfolding check_lists
    long-size e = rw (le-ltb 65536 (length sizes) h₁, ← q, e)

    module _ (h₂ : a ≡ false) where
      pub keys-differ : (length keys ≡ 2 * length sizes → ⊥) → Err FieldHeaderCut ≡ check_lists keys sizes values
      unfolding check_lists
      keys-differ h = rw (le-ltb 65536 (length sizes) h₁, ← q, h₂, ne_eqb (length keys) (2 * length sizes) h)

      module _ (h₃ : length keys ≡ 2 * length sizes) {b : Bool} (r : b ≡ eqb (sum sizes) (length values)) where
        pub values-differ : b ≡ false → Err ValueCut ≡ check_lists keys sizes values
        unfolding check_lists
        values-differ e = rw (le-ltb 65536 (length sizes) h₁, ← q, h₂, eq-eqb (length keys) (2 * length sizes) h₃, ← r, e)

        pub none-differs : b ≡ true → passed ≡ check_lists keys sizes values
        unfolding check_lists
        none-differs e = rw (le-ltb 65536 (length sizes) h₁, ← q, h₂, eq-eqb (length keys) (2 * length sizes) h₃, ← r, e)

-- a size that is not too long fits a length byte
size_fits : (n : ℕ) → long_size n ≡ false → n ≤ 255
size_fits n e = omega (arith, ltb-false)

-- what no refusal says
abbrev pub Fitting : List ℕ → List ℕ → List ℕ → Type 0
Fitting keys sizes values = (length sizes ≤ 65536) × (any long_size sizes ≡ false) × (length keys ≡ 2 * length sizes) × (sum sizes ≡ length values)

pub fitting : (keys sizes values : List ℕ) → check_lists keys sizes values ≡ passed → Fitting keys sizes values
unfolding check_lists
fitting keys sizes values =
    go (ltb 65536 (length sizes)) (any long_size sizes) (eqb (length keys) (2 * length sizes)) (eqb (sum sizes) (length values)) refl refl refl refl
  where
    go : (a b c d : Bool) → ltb 65536 (length sizes) ≡ a → any long_size sizes ≡ b → eqb (length keys) (2 * length sizes) ≡ c → eqb (sum sizes) (length values) ≡ d
        → cond a (Err InputLong) (cond b (Err WrittenValueLong) (cond (not c) (Err FieldHeaderCut) (cond (not d) (Err ValueCut) passed))) ≡ passed → Fitting keys sizes values
    go true b c d p q r s e = cc
    go false true c d p q r s e = cc
    go false false false d p q r s e = cc
    go false false true false p q r s e = cc
    go false false true true p q r s e =
        (ltb-false 65536 (length sizes) p, q, eqb-true (length keys) (2 * length sizes) r, eqb-true (sum sizes) (length values) s)

-- the outcome of a refusal, and of none
module _ (keys sizes values cells : List ℕ) where
  pub fields-refused : (e : Refusal) → check_lists keys sizes values ≡ Err e → refused e cells ≡ pack_fields keys sizes values cells
  unfolding pack_fields
  fields-refused e q = writing-stop (fields_bytes (field_list keys sizes values)) cells (check_lists keys sizes values) e q

  pub fields-written : check_lists keys sizes values ≡ passed → writes (fields_bytes (field_list keys sizes values)) cells ≡ pack_fields keys sizes values cells
  unfolding pack_fields
  fields-written q = sym (writing-go (fields_bytes (field_list keys sizes values)) cells (check_lists keys sizes values) q)

-- the stores of one field: its key and its length, and its value
pub field_put : (cells : List ℕ) (at a b : ℕ) (value : List ℕ) {x y : List ℕ} → x ≡ sets cells at (a ∷ b ∷ length value ∷ []) → y ≡ sets x (at + 3) value
    → y ≡ sets cells at (field_bytes (record { key0 = a; key1 = b; value = value }))
unfolding field_bytes
field_put cells at a b value p q = rw (q, p) (sym (sets-append (a ∷ b ∷ length value ∷ []) value cells at))

field-length : (f : Field) → length (field_bytes f) ≡ 3 + length f.value
unfolding field_bytes
field-length f = omega arith

-- no sizes, no fields
no-sizes : (keys values : List ℕ) → field_list keys [] values ≡ []
unfolding field_list
no-sizes [] values = refl
no-sizes (a ∷ []) values = refl
no-sizes (a ∷ b ∷ keys) values = refl

-- the fields, from a position of the lists and a position of the values on
module _ (keys sizes values : List ℕ) (i p : ℕ) where
  pub fields-end : length sizes ≤ i → fields_bytes (field_list (drop (2 * i) keys) (drop i sizes) (drop p values)) ≡ []
  unfolding fields_bytes
  fields-end h = rw (drop_of_length-le sizes h, no-sizes (drop (2 * i) keys) (drop p values))

  module _ (fit : Fitting keys sizes values) (h : i < length sizes) (t : p + sum (drop i sizes) ≡ length values) where
    size-most : get_or sizes i 0 ≤ 255
    size-most = none_above long_size 255 size_fits sizes i fit.1

    pub values-too : p + get_or sizes i 0 ≤ length values
    values-too = omega (arith, sum-here sizes i h)

    pub value-short : length (take (p + get_or sizes i 0 - p) (drop p values)) ≤ 255
    value-short = omega (arith, take-most (p + get_or sizes i 0 - p) (drop p values), size-most)

    pub values-left : p + get_or sizes i 0 + sum (drop (i + 1) sizes) ≡ length values
    values-left = omega (arith, sum-here sizes i h)

    abbrev here : Field
    here = record { key0 = get_or keys (2 * i) 0; key1 = get_or keys (2 * i + 1) 0; value = take (get_or sizes i 0) (drop p values) }

    keys-here : drop (2 * i) keys ≡ get_or keys (2 * i) 0 ∷ get_or keys (2 * i + 1) 0 ∷ drop (2 * (i + 1)) keys
    keys-here =
        let next : 2 * (i + 1) ≡ suc (suc (2 * i)) = omega arith in
        rw (next, add-one (2 * i), drop-cons keys (2 * i) 0 (omega (arith, fit.2)), drop-cons keys (suc (2 * i)) 0 (omega (arith, fit.2)))

    fields-here : fields_bytes (field_list (drop (2 * i) keys) (drop i sizes) (drop p values))
        ≡ field_bytes here ++ fields_bytes (field_list (drop (2 * (i + 1)) keys) (drop (i + 1) sizes) (drop (p + get_or sizes i 0) values))
    unfolding field_list fields_bytes
    fields-here = rw (keys-here, drop-cons sizes i 0 h, drop-drop (get_or sizes i 0) p values, add-one i)

    here-length : length (take (get_or sizes i 0) (drop p values)) ≡ get_or sizes i 0
    here-length = length-take-le (get_or sizes i 0) (drop p values) (omega (arith, values-too, length-drop p values))

    -- the field here is stored, and then the others
    pub fields-put : (cells : List ℕ)
        → sets cells (3 * i + p) (fields_bytes (field_list (drop (2 * i) keys) (drop i sizes) (drop p values)))
        ≡ sets (sets cells (3 * i + p) (field_bytes (record { key0 = get_or keys (2 * i) 0; key1 = get_or keys (2 * i + 1) 0; value = take (p + get_or sizes i 0 - p) (drop p values) })))
        (3 * (i + 1) + (p + get_or sizes i 0)) (fields_bytes (field_list (drop (2 * (i + 1)) keys) (drop (i + 1) sizes) (drop (p + get_or sizes i 0) values)))
    fields-put cells =
        let size : p + get_or sizes i 0 - p ≡ get_or sizes i 0 = omega arith in
        let next : 3 * (i + 1) + (p + get_or sizes i 0) ≡ 3 * i + p + length (field_bytes here) = omega (arith, field-length here, here-length) in
        rw (fields-here, size, next) (sets-append (field_bytes here) (fields_bytes (field_list (drop (2 * (i + 1)) keys) (drop (i + 1) sizes) (drop (p + get_or sizes i 0) values))) cells (3 * i + p))

-- as many fields as sizes, none of them long, and three bytes more of each than of its value
pub fields-count : (keys sizes values : List ℕ) → length keys ≡ 2 * length sizes → length (field_list keys sizes values) ≡ length sizes
unfolding field_list
fields-count [] sizes values e = omega arith
fields-count (a ∷ []) sizes values e = absurd (omega arith)
fields-count (a ∷ b ∷ keys) [] values e = refl
fields-count (a ∷ b ∷ keys) (n ∷ sizes) values e = ap suc (fields-count keys sizes (drop n values) (omega arith))

pub fields-short : (keys sizes values : List ℕ) → any long_size sizes ≡ false → any long_value (field_list keys sizes values) ≡ false
unfolding field_list any long_value
fields-short [] sizes values e = refl
fields-short (a ∷ []) sizes values e = refl
fields-short (a ∷ b ∷ keys) [] values e = refl
fields-short (a ∷ b ∷ keys) (n ∷ sizes) values e =
    let g = neither (long_size n) (any long_size sizes) e in
    rw (le-ltb 64 (length (take n values)) (omega (arith, take-most n values, ltb-false 64 n g.0))) (fields-short keys sizes (drop n values) g.1)

pub fields-length : (keys sizes values : List ℕ) → length keys ≡ 2 * length sizes → sum sizes ≡ length values
    → 3 * length sizes + length values ≡ length (fields_bytes (field_list keys sizes values))
unfolding field_list fields_bytes sum
fields-length [] [] values e f = omega arith
fields-length [] (n ∷ sizes) values e f = absurd (omega arith)
fields-length (a ∷ []) sizes values e f = absurd (omega arith)
fields-length (a ∷ b ∷ keys) [] values e f = absurd (omega arith)
fields-length (a ∷ b ∷ keys) (n ∷ sizes) values e f =
    let x : Field = record { key0 = a; key1 = b; value = take n values } in
    let l : length (take n values) ≡ n = length-take-le n values (omega arith) in
    let d = length-drop n values in
    let ih = fields-length keys sizes (drop n values) (omega arith) (omega (arith, d)) in
    let j = length-append (field_bytes x) (fields_bytes (field_list keys sizes (drop n values))) in
    omega (arith, j, field-length x, l, ih, d)

-- one field's bytes at a position, and the list that goes on behind them
module _ (s : List ℕ) (at : ℕ) (f : Field) (rest : List ℕ) (here : drop at s ≡ field_bytes f ++ rest) where
  abbrev next : ℕ
  next = at + 3 + length f.value

  field-size : size_at s at ≡ length f.value
  unfolding field_bytes
  field-size = sym (get_or-drop at s 2 0) ∙ rw here

  field-read : field_there s at ≡ f
  unfolding field_bytes
  field-read =
      let k0 : get_or s at 0 ≡ f.key0 = ap (λ (i : ℕ). get_or s i 0) (sym (add-zero at)) ∙ sym (get_or-drop at s 0 0) ∙ rw here in
      let k1 : get_or s (at + 1) 0 ≡ f.key1 = sym (get_or-drop at s 1 0) ∙ rw here in
      let v : drop (at + 3) s ≡ f.value ++ rest = sym (drop-drop 3 at s) ∙ rw here in
      let i : next - (at + 3) ≡ length f.value = omega arith in
      rw (k0, k1, field-size, i, v, take-append_seam f.value rest)

  field-rest : drop next s ≡ rest
  field-rest =
      let e : next ≡ at + length (field_bytes f) = omega (arith, field-length f) in
      rw e (drop_past at s (field_bytes f) rest here)

  field_room : next ≤ length s
  field_room =
      let e : length (drop at s) ≡ length (field_bytes f) + length rest = ap length here ∙ length-append (field_bytes f) rest in
      omega (arith, length-drop at s, e, field-length f)

  wire-field : (k : ℕ) (fs : List Field) → Lists fs (wire_list k s next) → Lists (f ∷ fs) (wire_list (suc k) s at)
  unfolding items all_read
  wire-field k fs r =
      let n : at + 3 + size_at s at ≡ next = omega (arith, field-size) in
      let w = wire-here s at (omega (arith, field-size, field_room)) in
      subst⁻¹ (Lists (f ∷ fs)) (wire-item s (suc k) at (omega arith) (omega (arith, field_room)) f next (w ∙ rw (field-read, n)))
      (rw sub-one (ap (λ (gs : List Field). f ∷ gs) r.0, r.1))

-- bytes of fields, from a position on, are walked as the fields
wire-all : (fs : List Field) (s : List ℕ) (k at : ℕ) → drop at s ≡ fields_bytes fs → length s ≤ at + k → Lists fs (wire_list k s at)
unfolding fields_bytes
wire-all [] s k at e h =
    let z : length (drop at s) ≡ 0 = rw e in
    wire-past s k at (omega (arith, length-drop at s, z))
wire-all (f ∷ fs) s zero at e h = absurd (omega (arith, field_room s at f (fields_bytes fs) e))
wire-all (f ∷ fs) s (suc k) at e h =
    wire-field s at f (fields_bytes fs) e k fs (wire-all fs s k (at + 3 + length f.value) (field-rest s at f (fields_bytes fs) e) (omega arith))

pub fields-listed : (fs : List Field) → Lists fs (wire_fields (fields_bytes fs))
unfolding wire_fields
fields-listed fs = wire-all fs (fields_bytes fs) (length (fields_bytes fs)) 0 refl (omega arith)
