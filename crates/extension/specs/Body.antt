-- The extension body: a 32-byte id, a count, and fields of a key of two bytes, a length byte and a value.
-- docs/RULES.md, "Extension body and match".
-- Assumes nothing.
use Rattle.std.specs.Prelude.{Result, Ok, Err, ℕ, ◌+◌, Bool, not, cond, ◌&&◌, List, [], ◌∷◌, ltb, eqb, length, get_or, take, Option, Some, None}
use Rattle.codec.specs.declared.refusal.Refusal.TheVariants.{BodyShort, CountUnreadable, FieldHeaderCut, ValueLong, ValueCut, ParameterSize, InputLong}
use Rattle.codec.specs.Vlq.{vlq_at}
use Rattle.codec.specs.declared.vlq.Number.{Number}
use Rattle.std.specs.Result.{result_and}
use Rattle.codec.specs.declared.refusal.Refusal.{Refusal}
use Rattle.codec.specs.Check.{Check, passed}
use Rattle.extension.specs.declared.section.Section.{Section}
use Rattle.extension.specs.declared.body.FieldPlace.{FieldPlace}
use Rattle.extension.specs.declared.body.Head.{Head}
use Rattle.extension.specs.Section.{Reading, got, bad, listing, closed, section_items, part, any}

-- the key's two bytes, and the value
pub record Field : Type 0 where
  pub key0 : ℕ
  pub key1 : ℕ
  pub value : List ℕ

-- the field at a position: its key, and where its value begins and ends; 3, 4 or 5 where there is none
unfoldable pub field_at : List ℕ → ℕ → Result FieldPlace Refusal
field_at s at =
    cond (ltb (length s) (at + 3)) (Err FieldHeaderCut)
    (cond (ltb 64 (get_or s (at + 2) 0)) (Err ValueLong)
    (cond (ltb (length s) (at + 3 + get_or s (at + 2) 0)) (Err ValueCut)
    (Ok
    (record { key0 = get_or s at 0; key1 = get_or s (at + 1) 0; start = at + 3; end = at + 3 + get_or s (at + 2) 0 }))))

unfoldable pub field_reading : List ℕ → Result FieldPlace Refusal → Reading Field
field_reading s (Ok f) = got (record { key0 = f.key0; key1 = f.key1; value = part s f.start f.end }) f.end
field_reading s (Err e) = bad e

unfoldable pub read_field : List ℕ → ℕ → Reading Field
read_field s at = field_reading s (field_at s at)

-- as many fields as were counted, after the count
unfoldable pub fields_from : List ℕ → Option Number → Result Section Refusal
fields_from body None = Err CountUnreadable
fields_from body (Some m) = closed m.value m.next (listing (read_field body) m.value m.next)

-- a body's fields: how many, where they begin and end; bytes after the last are ignored
unfoldable pub extension_of : List ℕ → Result Section Refusal
extension_of body =
    cond (ltb 65536 (length body)) (Err InputLong) (cond (ltb (length body) 32) (Err BodyShort) (fields_from body (vlq_at 32 body 32)))

-- what stands before a body's fields: how many they are, and where the first begins; or 22, 1, 2
unfoldable pub head_by : Option Number → Result Head Refusal
head_by None = Err CountUnreadable
head_by (Some m) = Ok (record { count = m.value; begin = m.next })

unfoldable pub head_of : List ℕ → Result Head Refusal
head_of body =
    cond (ltb 65536 (length body)) (Err InputLong) (cond (ltb (length body) 32) (Err BodyShort) (head_by (vlq_at 32 body 32)))

-- the fields of a body; none where it is refused
unfoldable pub fields_in : List ℕ → Result Section Refusal → List Field
fields_in body (Ok x) = section_items (read_field body) x
fields_in body (Err e) = []

unfoldable pub fields_of : List ℕ → List Field
fields_of body = fields_in body (extension_of body)

-- the id of the header that a body belongs to; nothing where the body is refused
unfoldable pub id_in : List ℕ → Result Section Refusal → List ℕ
id_in body (Ok x) = take 32 body
id_in body (Err e) = []

unfoldable pub header_id : List ℕ → List ℕ
header_id body = id_in body (extension_of body)

-- what a reader meets at a position of a body
unfoldable pub body_field : List ℕ → ℕ → Result FieldPlace Refusal
body_field body at = cond (ltb 65536 (length body)) (Err InputLong) (field_at body at)

-- the value of the field there; nothing where there is none
unfoldable pub value_of : List ℕ → Result FieldPlace Refusal → List ℕ
value_of body (Ok f) = part body f.start f.end
value_of body (Err e) = []

unfoldable pub field_value : List ℕ → ℕ → List ℕ
field_value body at = value_of body (body_field body at)

-- key 0, 124 holds the proposed settings update; other keys that begin with 0 hold parameters
unfoldable pub update_key : ℕ → ℕ → Bool
update_key key0 key1 = eqb key0 0 && eqb key1 124

unfoldable pub parameter_key : ℕ → ℕ → Bool
parameter_key key0 key1 = eqb key0 0 && not (eqb key1 124)

-- the value of the first update field
unfoldable pub update_in : List Field → List ℕ
update_in [] = []
update_in (f ∷ fs) = cond (update_key f.key0 f.key1) f.value (update_in fs)

unfoldable pub proposed_update : List ℕ → List ℕ
proposed_update body = update_in (fields_of body)

-- a parameter whose value is not four bytes
unfoldable pub wrong_size : ℕ → ℕ → ℕ → Bool
wrong_size key0 key1 size = parameter_key key0 key1 && not (eqb size 4)

unfoldable pub wrong_parameter : Field → Bool
wrong_parameter f = wrong_size f.key0 f.key1 (length f.value)

-- 6 where a parameter has another size
unfoldable pub check_sizes : List Field → Check
check_sizes fs = cond (any wrong_parameter fs) (Err ParameterSize) passed

-- 22, 1 to 5 over all fields, and then 6
unfoldable pub check_body : List ℕ → Result Section Refusal
check_body body = result_and (extension_of body) (result_and (check_sizes (fields_of body)) (extension_of body))
