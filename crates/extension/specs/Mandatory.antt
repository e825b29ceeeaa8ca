-- The rules that may not be disabled. docs/RULES.md, "Settings update".
-- Assumes nothing.
use Rattle.std.specs.Prelude.{ℕ, zero, suc, Bool, false, ◌&&◌, ◌||◌, List, [], ◌∷◌, leb, eqb, ℤ, pos, negsuc}

abbrev pub from : ℕ → ℕ → ℕ → Bool
from least greatest id = leb least id && leb id greatest

unfoldable pub mandatory_rule : ℕ → Bool
mandatory_rule id =
    from 100 109 id || from 112 117 id || eqb id 119 || eqb id 122
    || eqb id 200 || eqb id 201 || from 203 211 id || eqb id 213 || eqb id 214 || eqb id 216
    || from 300 305 id || eqb id 307 || eqb id 403 || eqb id 500 || eqb id 501

unfoldable pub mandatory : ℤ → Bool
mandatory (pos id) = mandatory_rule id
mandatory (negsuc n) = false

-- The code's table. No promise of a public function speaks of it; `flag-of` (proofs/Laws/Mandatory.antt) joins it to
-- `mandatory_rule`.

-- the flags of n rules from id on
abbrev pub flags_from : ℕ → ℕ → List Bool
flags_from id zero = []
flags_from id (suc n) = mandatory_rule id ∷ flags_from (suc id) n

-- the flags of the rules 0 to 511
unfoldable pub mandatory_flags : List Bool
mandatory_flags = flags_from 0 512
