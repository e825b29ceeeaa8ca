-- Lists of fields and bodies as they are written, and a body read and written again. docs/RULES.md, "Writers and rest". What the writers
-- answer stands in crates/writers/specs/Pack.antt.
-- Assumes nothing.
use Rattle.std.specs.Prelude.{Result, Ok, Err, ℕ, zero, suc, ◌+◌, Bool, cond, ◌≡◌, List, ◌++◌, ltb, leb, length, get_or}
use Rattle.codec.specs.declared.refusal.Refusal.TheVariants.{FieldHeaderCut, ValueCut, InputLong, WrittenValueLong}
use Rattle.codec.specs.Vlq.{vlq_bytes}
use Rattle.codec.specs.declared.refusal.Refusal.{Refusal}
use Rattle.codec.specs.Check.{Check, passed}
use Rattle.extension.specs.declared.section.Section.{Section}
use Rattle.extension.specs.Section.{Reading, got, bad, Listing, done, after, items, all_read, part, any}
use Rattle.extension.specs.Body.{Field, header_id}

-- a field of a list that is to be written: the key, a length byte, and a value of any such length
unfoldable pub wire_at : List ℕ → ℕ → Reading Field
wire_at s at =
    cond (ltb (length s) (at + 3)) (bad FieldHeaderCut)
    (cond (ltb (length s) (at + 3 + get_or s (at + 2) 0)) (bad ValueCut)
    (got (record { key0 = get_or s at 0; key1 = get_or s (at + 1) 0; value = part s (at + 3) (at + 3 + get_or s (at + 2) 0) }) (at + 3 + get_or s (at + 2) 0)))

-- the fields up to the end of the list, at most n of them
unfoldable pub wire_list : ℕ → List ℕ → ℕ → Listing Field
wire_list zero s at = done at
wire_list (suc n) s at = cond (leb (length s) at) (done at) (after (wire_at s at) (wire_list n s))

-- a list has fewer fields than bytes
unfoldable pub wire_fields : List ℕ → Listing Field
wire_fields s = wire_list (length s) s 0

unfoldable pub long_value : Field → Bool
long_value f = ltb 64 (length f.value)

-- 22, then 24, then 3 or 5 where the list is cut
unfoldable pub check_fields : Listing Field → Check
check_fields l =
    cond (ltb 65536 (length (items l))) (Err InputLong) (cond (any long_value (items l)) (Err WrittenValueLong) (all_read l))

-- the id, the number of fields, and the fields
unfoldable pub packed : List ℕ → List ℕ → List ℕ
packed id fields = id ++ vlq_bytes (length (items (wire_fields fields))) ++ fields

-- a body that is read, with its count in shortest form and no byte after the last field, is what the writer gives for its id and its fields
pub record BodyBack (body : List ℕ) (x : Section) : Type 0 where
  pub accepted : check_fields (wire_fields (part body x.begin x.end)) ≡ passed
  pub same_bytes : packed (header_id body) (part body x.begin x.end) ≡ body

abbrev pub BodyAgain : List ℕ → Result Section Refusal → Type 0
BodyAgain body r = (x : Section) → r ≡ Ok x → part body 32 x.begin ≡ vlq_bytes x.count → x.end ≡ length body → BodyBack body x
