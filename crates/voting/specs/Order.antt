-- Tallies that list their entries in another order. docs/RULES.md, "Boundary", "In another order".
-- Assumes nothing.
use Rattle.std.specs.Prelude.{Result, Ok, Err, ◌≡◌, ◌⊎◌, List, ◌≢◌}
use Rattle.codec.specs.declared.refusal.Refusal.TheVariants.{UnknownParameter, AbsentParameter}
use Rattle.codec.specs.declared.refusal.Refusal.{Refusal}
use Rattle.voting.specs.declared.tally.Entry.{Entry}
use Rattle.voting.specs.Common.{Pairwise}
use Rattle.voting.specs.Header.{negation}

-- two entries whose ids are neither equal nor negations of each other; -128 is its own negation
abbrev pub Compatible : Entry → Entry → Type 0
Compatible a b = (a.id ≢ b.id) × (a.id ≢ negation b.id)

-- no entry repeats or contradicts another
abbrev pub Consistent : List Entry → Type 0
Consistent = Pairwise Compatible

-- 13 or 14
abbrev pub NoParameter : Refusal → Type 0
NoParameter e = (e ≡ UnknownParameter) ⊎ (e ≡ AbsentParameter)

-- the same answer, whether it is a refusal or not; or each is refused by 13 or 14
abbrev pub Alike : {A : Type 0} → Result A Refusal → Result A Refusal → Type 0
Alike (Ok x) (Ok y) = x ≡ y
Alike (Ok x) (Err e) = ⊥
Alike (Err d) (Ok y) = ⊥
Alike (Err d) (Err e) = (d ≡ e) ⊎ (NoParameter d × NoParameter e)
