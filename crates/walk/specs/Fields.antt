-- The code's shape, which need not be believed: laws join it to what the contracts of `walk` say.
-- Assumes nothing.
use Rattle.std.specs.Prelude.{ℕ, ◌-◌, cond, List, [], ◌∷◌, ltb, leb, eqb, length, get_or, set, replicate, None}
use Rattle.voting.specs.Table.{fork_entries}
use Rattle.voting.specs.Value.{Value}
use Rattle.voting.specs.declared.table.Fork.{Fork}
use Rattle.voting.specs.declared.table.Table.{Table}
use Rattle.extension.specs.Body.{Field}
use Rattle.extension.specs.Parameters.{number_in, agrees}

-- the place of an id among the twelve, 12 for any other; and of a field
unfoldable pub slot_of : ℕ → ℕ
slot_of id = cond (ltb id 1) 12 (cond (leb id 9) (id - 1) (cond (ltb id 121) 12 (cond (ltb 123 id) 12 (id - 112))))

unfoldable pub place_of : ℕ → ℕ → ℕ
place_of key0 key1 = cond (eqb key0 0) (slot_of key1) 12

-- a slot for each of the twelve, and one more
abbrev pub no_slots : List Value
no_slots = replicate 13 None

unfoldable pub slot_in : List ℕ → Value
slot_in v = cond (eqb (length v) 4) (number_in v) None

-- fields in order, each stored at its place
unfoldable pub stored : List Field → List Value → List Value
stored [] slots = slots
stored (f ∷ fs) slots = stored fs (set slots (place_of f.key0 f.key1) (slot_in f.value))

abbrev pub slot_at : List Value → ℕ → Value
slot_at s k = get_or s k None

unfoldable pub table_from : List Value → Table
table_from s =
    record {
      ordinary = slot_at s 0 ∷ slot_at s 1 ∷ slot_at s 2 ∷ slot_at s 3 ∷ slot_at s 4 ∷ slot_at s 5 ∷ slot_at s 6 ∷ slot_at s 7 ∷ slot_at s 8 ∷ [];
      fork = fork_entries (slot_at s 9) (slot_at s 10) (slot_at s 11);
    }

-- the first of the fork's ids whose entries are unlike
unfoldable pub fork_unlike : Fork → Fork → ℕ
fork_unlike expected found =
    cond (agrees expected.votes found.votes)
    (cond (agrees expected.start found.start) (cond (agrees expected.version found.version) 0 123) 122) 121
