-- Bodies and parameters written: the walk over a list of fields, and the bytes of parameters one after another.
-- Assumes nothing.
use Rattle.std.proofs.Common.{◌≡◌, ℕ, zero, suc, ◌+◌, ◌-◌, ◌*◌, ◌%◌, ◌<◌, ◌≤◌, Bool, true, false, cond, ◌||◌, eqb, ltb, List, [], ◌++◌, length, ℤ, sym, refl, ap, ◌∙◌, add-zero, zero-add, arith, length-append, ltb-true, ltb-false, le-ltb, lt-ltb, eq-eqb, ne_eqb}
use lib.Seq.{sets}
use Rattle.codec.specs.declared.refusal.Refusal.{Refusal}
use Rattle.codec.specs.Check.{Check, passed}
use Rattle.codec.specs.declared.refusal.Refusal.TheVariants.{FieldHeaderCut, ValueCut, InputLong, WrittenValueLong, OutputShort}
use Rattle.codec.specs.Vlq.{vlq_bytes}
use Rattle.codec.specs.BigEndian.{big_endian_bytes}
use Rattle.codec.specs.Output.{wrote, refused, writes}
use Rattle.codec.proofs.Laws.Output as output
use Rattle.voting.specs.Value.{Value}
use Rattle.std.specs.Prelude.{None, Some, Err}
use Rattle.voting.proofs.Laws.Tests.{by-test}
use Rattle.extension.specs.declared.parameters.ParameterMap.{ParameterMap}
use Rattle.extension.specs.Section.{bad, Listing, done, stop, item, items, all_read, any}
use Rattle.extension.specs.Body.{Field}
use Rattle.extension.specs.Parameters.{entry_of}
use Rattle.extension.specs.Pack.{wire_at, wire_list, wire_fields, long_value, check_fields, packed}
use Rattle.extension.proofs.Laws.Pack.{size_at, field_there, wire-header-cut, wire-value-cut, wire-here, value-length, wire-none, wire-end, wire-stop, wire-item}
use Rattle.writers.specs.declared.pack.Survey.{Survey}
use Rattle.writers.specs.Survey.{surveyed, check_survey}
use Rattle.writers.specs.Pack.{pack_extension, number_bytes, entry_bytes, entries_from}

-- the survey of a list of fields, after so many fields before it, of which one was long or none
unfoldable pub surveyed_on : ℕ → Bool → Listing Field → Survey
surveyed_on n t l = record { count = n + length (items l); long = t || any long_value (items l); whole = all_read l }

or-none : (t : Bool) → t || false ≡ t
or-none true = refl
or-none false = refl

or-first : (t u v : Bool) → (t || u) || v ≡ t || (u || v)
or-first true u v = refl
or-first false u v = refl

survey-done : (n : ℕ) (t : Bool) (at : ℕ) → surveyed_on n t (done at) ≡ record { count = n; long = t; whole = passed }
unfolding surveyed_on items any all_read
survey-done n t at = rw (or-none t, add-zero n)

survey-stop : (n : ℕ) (t : Bool) (e : Refusal) → surveyed_on n t (stop e) ≡ record { count = n; long = t; whole = Err e }
unfolding surveyed_on items any all_read
survey-stop n t e = rw (or-none t, add-zero n)

survey-item : (n : ℕ) (t : Bool) (f : Field) (l : Listing Field) → surveyed_on n t (item f l) ≡ surveyed_on (n + 1) (t || long_value f) l
unfolding surveyed_on items any all_read
survey-item n t f l =
    let e : n + suc (length (items l)) ≡ n + 1 + length (items l) = omega arith in
    rw (or-first t (long_value f) (any long_value (items l)), e)

-- the survey from a position on, after so many fields before it: a list has fewer fields than bytes
abbrev pub walk : List ℕ → ℕ → ℕ → Bool → Survey
walk s at count long = surveyed_on count long (wire_list (length s - count) s at)

-- the ways of the walk
module _ (s : List ℕ) where
  pub walk-start : walk s 0 0 false ≡ surveyed (wire_fields s)
  unfolding surveyed_on surveyed wire_fields
  walk-start = let e : length s - 0 ≡ length s = omega arith in rw (e, zero-add (length (items (wire_list (length s) s 0))))

  module _ (at count : ℕ) (long : Bool) where
    pub walk_end : length s ≤ at → walk s at count long ≡ record { count = count; long = long; whole = passed }
    walk_end h = ap (surveyed_on count long) ends ∙ survey-done count long at
      where
        ends : wire_list (length s - count) s at ≡ done at
        ends =
            by-test (ltb 0 (length s - count)) (λ e. wire-end s (length s - count) at (ltb-true 0 (length s - count) e) h)
            (λ e. wire-none s (length s - count) at (ltb-false 0 (length s - count) e))

    module _ (few : count ≤ at) (h : at < length s) where
      walk-stop : (e : Refusal) → wire_at s at ≡ bad e → walk s at count long ≡ record { count = count; long = long; whole = Err e }
      walk-stop e q = ap (surveyed_on count long) (wire-stop s (length s - count) at (omega arith) h e q) ∙ survey-stop count long e

      pub walk-header-cut : length s - at < 3 → walk s at count long ≡ record { count = count; long = long; whole = Err FieldHeaderCut }
      walk-header-cut k = walk-stop FieldHeaderCut (wire-header-cut s at (omega arith))

      module _ (k : 3 ≤ length s - at) where
        pub walk-value-cut : length s - at - 3 < size_at s at → walk s at count long ≡ record { count = count; long = long; whole = Err ValueCut }
        walk-value-cut m = walk-stop ValueCut (wire-value-cut s at (omega arith) (omega arith))

        pub walk_field : size_at s at ≤ length s - at - 3 → walk s at count long ≡ walk s (at + (3 + size_at s at)) (count + 1) (long || ltb 64 (size_at s at))
        unfolding long_value
        walk_field m =
            let i : at + 3 + size_at s at ≤ length s = omega arith in
            let next : at + 3 + size_at s at ≡ at + (3 + size_at s at) = omega arith in
            let left : length s - count - 1 ≡ length s - (count + 1) = omega arith in
            ap (surveyed_on count long) (wire-item s (length s - count) at (omega arith) h (field_there s at) (at + 3 + size_at s at) (wire-here s at i)) ∙
            survey-item count long (field_there s at) (wire_list (length s - count - 1) s (at + 3 + size_at s at)) ∙
            rw (value-length s at i, next, left)

-- the check of a survey is the check of the list
pub check-survey : (l : Listing Field) → check_survey (surveyed l) ≡ check_fields l
unfolding check_survey surveyed check_fields
check-survey l = refl

-- the check of a survey, test by test
module _ (w : Survey) where
  pub many-fields : 65536 < w.count → Err InputLong ≡ check_survey w
  unfolding check_survey
  many-fields h = rw (lt-ltb 65536 w.count h)

  module _ (h : w.count ≤ 65536) where
    pub long-value : w.long ≡ true → Err WrittenValueLong ≡ check_survey w
    unfolding check_survey
    long-value e = rw (le-ltb 65536 w.count h, e)

    pub whole-only : w.long ≡ false → w.whole ≡ check_survey w
    unfolding check_survey
    whole-only e = rw (le-ltb 65536 w.count h, e)

-- a body's outcome, by the survey of its fields and the tests of the buffer's length
module _ (id fields cells : List ℕ) {w : Survey} {r : Check} (is-w : w ≡ surveyed (wire_fields fields)) (is-r : r ≡ check_survey w) where
  is-check : r ≡ check_fields (wire_fields fields)
  is-check = is-r ∙ ap check_survey is-w ∙ check-survey (wire_fields fields)

  pub pack-refused : (e : Refusal) → r ≡ Err e → refused e cells ≡ pack_extension id fields cells
  unfolding pack_extension
  pack-refused e q = output.writing-stop (packed id fields) cells (check_fields (wire_fields fields)) e (sym is-check ∙ q)

  module _ (l : length id ≡ 32) (z : r ≡ passed) {k : ℕ} (is-k : k ≡ length (vlq_bytes w.count)) where
    is-packed : packed id fields ≡ id ++ vlq_bytes w.count ++ fields
    unfolding packed surveyed
    is-packed = rw is-w

    is-size : 32 + k + length fields ≡ length (packed id fields)
    is-size =
        rw (is-packed, length-append (id ++ vlq_bytes w.count) fields, length-append id (vlq_bytes w.count), l, is-k)

    goes : writes (packed id fields) cells ≡ pack_extension id fields cells
    unfolding pack_extension
    goes = sym (output.writing-go (packed id fields) cells (check_fields (wire_fields fields)) (sym is-check ∙ z))

    pub pack-short : length cells < 32 + k → refused OutputShort cells ≡ pack_extension id fields cells
    pack-short h = output.short (packed id fields) cells (32 + k + length fields) is-size (omega arith) ∙ goes

    module _ (h : 32 + k ≤ length cells) where
      pub pack-short-fields : length cells - (32 + k) < length fields → refused OutputShort cells ≡ pack_extension id fields cells
      pack-short-fields m = output.short (packed id fields) cells (32 + k + length fields) is-size (omega arith) ∙ goes

      pub pack-done : length fields ≤ length cells - (32 + k) → {a b d : List ℕ} → a ≡ sets cells 0 id → b ≡ sets a 32 (vlq_bytes w.count) → d ≡ sets b (32 + k) fields
          → wrote (32 + k + length fields) d ≡ pack_extension id fields cells
      pack-done m {a} {b} {d} p q r =
          output.done (packed id fields) cells (32 + k + length fields) is-size (omega arith) d (r ∙ together) ∙ goes
        where
          together : sets b (32 + k) fields ≡ sets cells 0 (packed id fields)
          together =
              rw (is-packed, output.sets-append (id ++ vlq_bytes w.count) fields cells 0, output.sets-append id (vlq_bytes w.count) cells 0, length-append id (vlq_bytes w.count), l, ← is-k, ← p, zero-add 32, zero-add (32 + k), ← q)

-- the bytes of one parameter
module _ (id : ℕ) where
  pub entry_absent : (v : Value) → v ≡ None → entry_bytes id v ≡ []
  unfolding entry_bytes
  entry_absent v e = rw e

  pub entry-dropped : (v : Value) (x : ℤ) → v ≡ Some x → id ≡ 124 → entry_bytes id v ≡ []
  unfolding entry_bytes
  entry-dropped v x e q = rw (e, eq-eqb id 124 q)

  pub entry-number : (v : Value) (x : ℤ) → v ≡ Some x → (id ≡ 124 → ⊥) → entry_bytes id v ≡ number_bytes id x
  unfolding entry_bytes
  entry-number v x e q = rw (e, ne_eqb id 124 q)

  pub entry-seven : (v : Value) (x : ℤ) → v ≡ Some x → (id ≡ 124 → ⊥) → 7 ≡ length (entry_bytes id v)
  unfolding big_endian_bytes
  entry-seven v x e q = rw (entry-number v x e q)

  pub entry-most : (v : Value) → length (entry_bytes id v) ≤ 7
  unfolding entry_bytes big_endian_bytes
  entry-most None = omega arith
  entry-most (Some x) = go (eqb id 124)
    where
      go : (t : Bool) → length (cond t [] (number_bytes id x)) ≤ 7
      go true = omega arith
      go false = omega arith

-- n parameters have at most seven bytes each
pub entries-most : (m : ParameterMap) (n id : ℕ) → length (entries_from n id m) ≤ 7 * n
unfolding entries_from
entries-most m zero id = omega arith
entries-most m (suc n) id =
    let next = (id + 1) % 256 in
    let e = length-append (entry_bytes id (entry_of m id)) (entries_from n next m) in
    omega (arith, e, entry-most id (entry_of m id), entries-most m n next)

-- the parameters that are left after k of them: none, or one and then the others
abbrev pub left : ParameterMap → ℕ → List ℕ
left m k = entries_from (256 - k) ((k + 128) % 256) m

module _ (m : ParameterMap) (k : ℕ) where
  pub left-none : 256 ≤ k → left m k ≡ []
  unfolding entries_from
  left-none h = let e : 256 - k ≡ 0 = omega arith in rw e

  module _ (h : k ≤ 255) {id : ℕ} {v : Value} {r : ℕ} (is-id : id ≡ (k + 128) % 256) (is-v : v ≡ entry_of m id) (is-r : r ≡ length (entry_bytes id v)) where
    left-one : left m k ≡ entry_bytes id v ++ left m (k + 1)
    unfolding entries_from
    left-one =
        let n : 256 - k ≡ suc (256 - (k + 1)) = omega arith in
        let next : (id + 1) % 256 ≡ (k + 1 + 128) % 256 = omega arith in
        rw (n, ← is-id, ← is-v, next)

    pub size-next : (n : ℕ) → n + length (left m k) ≡ n + r + length (left m (k + 1))
    size-next n = rw (left-one, length-append (entry_bytes id v) (left m (k + 1)), ← is-r) (omega arith)

    pub put-next : (cells : List ℕ) (at : ℕ) {after : List ℕ} → after ≡ sets cells at (entry_bytes id v) → sets cells at (left m k) ≡ sets after (at + r) (left m (k + 1))
    put-next cells at q = rw (left-one, output.sets-append (entry_bytes id v) (left m (k + 1)) cells at, ← is-r, ← q)
