-- The parameters of a body, and the match of a computed table against them. docs/RULES.md, "Extension body and match".
-- Assumes nothing.
use Rattle.std.specs.Prelude.{Result, Ok, Err, ⊤, MatchResult, ℕ, zero, suc, ◌<◌, ◌≡◌, Bool, true, false, cond, ◌&&◌, List, [], ◌∷◌, eqb, ℤ, length, get_or, set, replicate, None, Some}
use Rattle.codec.specs.Signed.{signed_of}
use Rattle.codec.specs.BigEndian.{big_endian}
use Rattle.voting.specs.Common.{eq_z}
use Rattle.voting.specs.Table.{lookup}
use Rattle.voting.specs.Value.{Value}
use Rattle.voting.specs.declared.table.Table.{Table}
use Rattle.codec.specs.declared.refusal.Refusal.{Refusal}
use Rattle.codec.specs.Check.{and_then}
use Rattle.extension.specs.declared.parameters.ParameterMap.{ParameterMap}
use Rattle.extension.specs.declared.parameters.Mismatch.{Mismatch}
use Rattle.extension.specs.Section.{section_items}
use Rattle.extension.specs.Body.{Field, parameter_key, read_field, check_body}

-- one entry for each id byte, all absent
unfoldable pub no_parameters : ParameterMap
no_parameters = record { entries = replicate 256 None }

unfoldable pub entry_of : ParameterMap → ℕ → Value
entry_of m id = get_or m.entries id None

abbrev pub store : ParameterMap → ℕ → Value → ParameterMap
store m id v = record { entries = set m.entries id v }

-- four bytes are a signed number of 32 bits, the most significant byte first
unfoldable pub number_in : List ℕ → Value
number_in bytes = Some (signed_of 32 (big_endian bytes))

-- a parameter is stored under the second byte of its key
unfoldable pub taken : Field → ParameterMap → ParameterMap
taken f m = cond (parameter_key f.key0 f.key1 && eqb (length f.value) 4) (store m f.key1 (number_in f.value)) m

-- fields in order: a later equal id wins
unfoldable pub parameters_in : List Field → ParameterMap → ParameterMap
parameters_in [] m = m
parameters_in (f ∷ fs) m = parameters_in fs (taken f m)

-- of a body that is checked
unfoldable pub parameters_of : List ℕ → Result ParameterMap Refusal
parameters_of body = and_then (check_body body) (λ x. Ok (parameters_in (section_items (read_field body) x) no_parameters))

-- a computed entry stands, equal, among the parameters; an absent one asks nothing
unfoldable pub agrees : Value → Value → Bool
agrees None found = true
agrees (Some x) None = false
agrees (Some x) (Some y) = eq_z x y

-- the ids of a table's twelve entries, in rising order
unfoldable pub table_ids : List ℕ
table_ids = 1 ∷ 2 ∷ 3 ∷ 4 ∷ 5 ∷ 6 ∷ 7 ∷ 8 ∷ 9 ∷ 121 ∷ 122 ∷ 123 ∷ []

-- the first id whose entry is missing or different, 0 where there is none
unfoldable pub first_differing : Table → ParameterMap → List ℕ → ℕ
first_differing t m [] = 0
first_differing t m (id ∷ ids) = cond (agrees (lookup t id) (entry_of m id)) (first_differing t m ids) id

unfoldable pub matched : ℕ → Result ⊤ Mismatch
matched zero = Ok tt
matched (suc k) = Err (record { id = suc k })

-- 15 with the least id that differs
unfoldable pub check_parameters : Table → ParameterMap → Result ⊤ Mismatch
check_parameters t m = matched (first_differing t m table_ids)

-- What 15 carries, without the order of a list. An entry stands: if the table has a number under the id, the parameters have the same there.
abbrev pub Stands : Table → ParameterMap → ℕ → Type 0
Stands t m id = (x : ℤ) → lookup t id ≡ Some x → entry_of m id ≡ Some x

-- the least id, by number, whose entry is missing or different
abbrev pub LeastDiffering : Table → ParameterMap → ℕ → Type 0
LeastDiffering t m id = (Stands t m id → ⊥) × ((smaller : ℕ) → smaller < id → Stands t m smaller)

-- every entry stands, or it is 15 with the least id
abbrev pub LeastCarried : Table → ParameterMap → Result ⊤ Mismatch → Type 0
LeastCarried t m r = MatchResult r (λ _. (id : ℕ) → Stands t m id) (λ e. LeastDiffering t m e.id)
