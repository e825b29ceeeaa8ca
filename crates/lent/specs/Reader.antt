-- A reader that holds a body and a position. docs/RULES.md, "Extension body and match".
-- Assumes nothing.
use Rattle.std.specs.Prelude.{ℕ, zero, suc, ◌≡◌, List, [], ◌∷◌, Option, Some, None, Result, Ok, Err}
use Rattle.std.specs.Result.{result_err}
use Rattle.codec.specs.declared.refusal.Refusal.{Refusal}
use Rattle.codec.specs.Check.{and_then}
use Rattle.extension.specs.declared.body.FieldPlace.{FieldPlace}
use Rattle.extension.specs.Section.{listing, items, part}
use Rattle.extension.specs.Body.{Field, read_field, extension_of, fields_of, body_field, field_value}
use Rattle.lent.specs.declared.reader.Cursor.{Cursor}
use Rattle.lent.specs.declared.reader.FieldRead.{FieldRead}

-- before the first field; or the body's refusal
unfoldable pub cursor_of : List ℕ → Result Cursor Refusal
cursor_of body = and_then (extension_of body) (λ x. Ok (record { at = x.begin; left = x.count }))

-- a field, and the cursor after it
unfoldable pub after_field : ℕ → Result FieldPlace Refusal → Result (Option FieldRead) Refusal
after_field left (Ok f) = Ok (Some (record { place = f; cursor = record { at = f.end; left = left } }))
after_field left (Err e) = Err e

-- the field at the cursor; none where none is left
unfoldable pub next_by : List ℕ → ℕ → ℕ → Result (Option FieldRead) Refusal
next_by body at zero = Ok None
next_by body at (suc left) = after_field left (body_field body at)

-- a refused body is told first
unfoldable pub next_of : List ℕ → Result Cursor Refusal → Result (Option FieldRead) Refusal
next_of body c = and_then c (λ x. next_by body x.at x.left)

-- its value; nothing where no field is left or the body is refused
unfoldable pub value_by : List ℕ → ℕ → ℕ → List ℕ
value_by body at zero = []
value_by body at (suc left) = field_value body at

unfoldable pub value_at : List ℕ → Result Cursor Refusal → List ℕ
value_at body (Ok x) = value_by body x.at x.left
value_at body (Err e) = []

-- the fields from a cursor on
unfoldable pub fields_left : List ℕ → Result Cursor Refusal → List Field
fields_left body (Ok x) = items (listing (read_field body) x.left x.at)
fields_left body (Err e) = []

-- before the first field all fields are left, and the refusal that is told first is that of the body
pub record Begins (body : List ℕ) (c : Result Cursor Refusal) : Type 0 where
  pub fields : fields_left body c ≡ fields_of body
  pub told : result_err (next_of body c) ≡ result_err (extension_of body)

abbrev pub field_of : List ℕ → FieldPlace → Field
field_of body f = record { key0 = f.key0; key1 = f.key1; value = part body f.start f.end }

-- what was read is the first of the fields that were left, and the others are left
unfoldable pub Reads : List ℕ → Result Cursor Refusal → Result (Option FieldRead) Refusal → Type 0
Reads body c (Ok (Some x)) = fields_left body c ≡ field_of body x.place ∷ fields_left body (Ok x.cursor)
Reads body c (Ok None) = fields_left body c ≡ []
Reads body c (Err e) = fields_left body c ≡ []
