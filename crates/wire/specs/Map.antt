-- The parameters of a body in bytes: 5 for each id that is present. docs/VECTORS.md, "Bytes".
-- Assumes nothing.
use Rattle.std.specs.Prelude.{ℕ, zero, suc, ◌+◌, ◌≤◌, ◌≡◌, List, [], ◌∷◌, ◌++◌, None, Some}
use Rattle.codec.specs.Signed.{bits_of}
use Rattle.voting.specs.Value.{Value}
use Rattle.extension.specs.declared.parameters.ParameterMap.{ParameterMap}
use Rattle.extension.specs.Parameters.{no_parameters, entry_of, store, number_in}
use Rattle.wire.specs.Values.{marked}

-- the id's byte and the number's bits; nothing of an id that is absent
unfoldable pub present_bytes : ℕ → Value → List ℕ
present_bytes id None = []
present_bytes id (Some z) = marked id (bits_of 32 z)

-- n ids from one on
unfoldable pub present_from : ℕ → ℕ → ParameterMap → List ℕ
present_from zero id m = []
present_from (suc n) id m = present_bytes id (entry_of m id) ++ present_from n (id + 1) m

-- all id bytes, in rising order
unfoldable pub map_bytes : ParameterMap → List ℕ
map_bytes m = present_from 256 0 m

-- entries one after another: a later equal id wins, and up to four bytes left over are none
unfoldable pub map_in : List ℕ → ParameterMap → ParameterMap
map_in (id ∷ a ∷ b ∷ c ∷ d ∷ bytes) m = map_in bytes (store m id (number_in (a ∷ b ∷ c ∷ d ∷ [])))
map_in [] m = m
map_in (a ∷ []) m = m
map_in (a ∷ b ∷ []) m = m
map_in (a ∷ b ∷ c ∷ []) m = m
map_in (a ∷ b ∷ c ∷ d ∷ []) m = m

unfoldable pub map_of : List ℕ → ParameterMap
map_of bytes = map_in bytes no_parameters

-- every id is read back
abbrev pub MapBack : ParameterMap → Type 0
MapBack m = (id : ℕ) → id ≤ 255 → entry_of (map_of (map_bytes m)) id ≡ entry_of m id
