-- Fields written from lists, and read back. docs/RULES.md, "Writers and rest".
-- Assumes nothing.
use Rattle.std.specs.Prelude.{Err, IsOk, ◌≡◌, ℕ, ◌*◌, ◌≤◌, Bool, cond, not, ltb, List, [], ◌∷◌, ◌++◌, length, take, drop, ◌==◌, nat_lt}
use Rattle.codec.specs.declared.refusal.Refusal.TheVariants.{FieldHeaderCut, ValueCut, InputLong, WrittenValueLong}
use Rattle.codec.specs.Check.{Check, passed}
use Rattle.codec.specs.Output.{Outcome, writing}
use Rattle.extension.specs.Section.{any}
use Rattle.extension.specs.Body.{Field, extension_of, fields_of}
use Rattle.extension.specs.Encode.{sum}
use Rattle.extension.specs.Pack.{wire_fields, check_fields, packed}

-- fields as a caller hands them over: two key bytes of each, the sizes, and the bytes of all values one after another
unfoldable pub field_list : List ℕ → List ℕ → List ℕ → List Field
field_list [] sizes values = []
field_list (a ∷ []) sizes values = []
field_list (a ∷ b ∷ keys) [] values = []
field_list (a ∷ b ∷ keys) (n ∷ sizes) values =
    record { key0 = a; key1 = b; value = take n values } ∷ field_list keys sizes (drop n values)

-- key, length, value
unfoldable pub field_bytes : Field → List ℕ
field_bytes f = f.key0 ∷ f.key1 ∷ length f.value ∷ f.value

unfoldable pub fields_bytes : List Field → List ℕ
fields_bytes [] = []
fields_bytes (f ∷ fs) = field_bytes f ++ fields_bytes fs

-- the size of a value that is too long
abbrev pub long_size : ℕ → Bool
long_size = ltb 64

-- 22, then 24, then 3 where there are not two key bytes for each size, then 5 where there are not as many bytes as the sizes say
unfoldable pub check_lists : List ℕ → List ℕ → List ℕ → Check
check_lists keys sizes values =
    cond (nat_lt 65536 (length sizes)) (Err InputLong)
    (cond (any long_size sizes) (Err WrittenValueLong)
    (cond (not (length keys == 2 * length sizes)) (Err FieldHeaderCut)
    (cond (not (sum sizes == length values)) (Err ValueCut) passed)))

unfoldable pub pack_fields : List ℕ → List ℕ → List ℕ → List ℕ → Outcome
pack_fields keys sizes values cells =
    writing (check_lists keys sizes values) (fields_bytes (field_list keys sizes values)) cells

-- fields that were written are a list that a body is packed of, and the body, if it is not too long to be read, is read back to them
pub record FieldsBack (fs : List Field) : Type 0 where
  pub packs : check_fields (wire_fields (fields_bytes fs)) ≡ passed
  pub parsed : (header : List ℕ) → length header ≡ 32 → length (packed header (fields_bytes fs)) ≤ 65536 → IsOk (extension_of (packed header (fields_bytes fs)))
  pub same : (header : List ℕ) → length header ≡ 32 → length (packed header (fields_bytes fs)) ≤ 65536 → fields_of (packed header (fields_bytes fs)) ≡ fs
