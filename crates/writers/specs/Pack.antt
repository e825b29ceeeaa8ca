-- Bodies and parameters written, and read back. docs/RULES.md, "Writers and rest". What a body's bytes are and what is refused stands in
-- crates/extension/specs/Pack.antt.
-- Assumes nothing.
use Rattle.std.specs.Prelude.{Ok, IsOk, ◌≡◌, ℕ, zero, suc, ◌+◌, ◌%◌, ◌≤◌, cond, List, [], ◌∷◌, ◌++◌, ℤ, ◌==◌, None, Some}
use Rattle.codec.specs.Signed.{bits_of}
use Rattle.codec.specs.BigEndian.{big_endian_bytes}
use Rattle.codec.specs.Check.{passed}
use Rattle.codec.specs.Output.{Outcome, writing, writes}
use Rattle.voting.specs.Value.{Value}
use Rattle.extension.specs.declared.parameters.ParameterMap.{ParameterMap}
use Rattle.extension.specs.Section.{items}
use Rattle.extension.specs.Body.{extension_of, fields_of, header_id, check_body}
use Rattle.extension.specs.Parameters.{entry_of, parameters_of}
use Rattle.extension.specs.Pack.{wire_fields, check_fields, packed}

unfoldable pub pack_extension : List ℕ → List ℕ → List ℕ → Outcome
pack_extension id fields cells = writing (check_fields (wire_fields fields)) (packed id fields) cells

-- what was packed, if it is not too long to be read, is read back
pub record PackedBack (id fields : List ℕ) : Type 0 where
  pub parsed : IsOk (extension_of (packed id fields))
  pub same_id : header_id (packed id fields) ≡ id
  pub same-fields : fields_of (packed id fields) ≡ items (wire_fields fields)

-- a parameter as a field: key 0 and the id, a length of 4, and the number
abbrev pub number_bytes : ℕ → ℤ → List ℕ
number_bytes id z = 0 ∷ id ∷ 4 ∷ big_endian_bytes 4 (bits_of 32 z)

-- 124 is dropped
unfoldable pub entry_bytes : ℕ → Value → List ℕ
entry_bytes id None = []
entry_bytes id (Some z) = cond (id == 124) [] (number_bytes id z)

-- n ids from one on; 0 follows 255
unfoldable pub entries_from : ℕ → ℕ → ParameterMap → List ℕ
entries_from zero id m = []
entries_from (suc n) id m = entry_bytes id (entry_of m id) ++ entries_from n ((id + 1) % 256) m

-- the order of signed ids: from -128, which is the byte 128, to 127
unfoldable pub parameter_bytes : ParameterMap → List ℕ
parameter_bytes m = entries_from 256 128 m

unfoldable pub pack_parameters : ParameterMap → List ℕ → Outcome
pack_parameters m cells = writes (parameter_bytes m) cells

-- the body with these fields passes the body check, and has the parameters that were written
pub record ParametersBack (m : ParameterMap) (header : List ℕ) : Type 0 where
  pub packs : check_fields (wire_fields (parameter_bytes m)) ≡ passed
  pub checked : IsOk (check_body (packed header (parameter_bytes m)))
  pub found : ParameterMap
  pub read : parameters_of (packed header (parameter_bytes m)) ≡ Ok found
  pub same : (id : ℕ) → id ≤ 255 → entry_of found id ≡ cond (id == 124) None (entry_of m id)
