-- The tally of the votes of an epoch. docs/RULES.md, "Tally".
-- Assumes nothing.
use Rattle.std.specs.Prelude.{Result, Ok, Err, ℕ, suc, ◌+◌, ◌*◌, ◌/◌, Bool, false, cond, List, [], ◌∷◌, length, take, ℤ, pos, ◌==◌, nat_eq, nat_lt}
use Rattle.codec.specs.declared.refusal.Refusal.TheVariants.{InputLong}
use Rattle.codec.specs.Signed.{signed_of}
use Rattle.voting.specs.declared.tally.Entry.{Entry}
use Rattle.voting.specs.declared.tally.Tally.{Tally}
use Rattle.codec.specs.declared.refusal.Refusal.{Refusal}
use Rattle.counting.specs.Count.{count}
use Rattle.voting.specs.Common.{eq_z}
use Rattle.voting.specs.Header.{votes_for}

-- the vote bytes of the headers in a string of bytes, three a header; one or two bytes left over are none
unfoldable pub headers : List ℕ → List (List ℕ)
headers (a ∷ b ∷ c ∷ bytes) = (a ∷ b ∷ c ∷ []) ∷ headers bytes
headers [] = []
headers (a ∷ []) = []
headers (a ∷ b ∷ []) = []

-- the bytes of whole headers
unfoldable pub whole : List ℕ → List ℕ
whole bytes = take (3 * (length bytes / 3)) bytes

abbrev pub no_entry : Entry
no_entry = record { id = pos 0; count = 0 }

abbrev pub no_tally : Tally
no_tally = record { first = no_entry; second = no_entry; third = no_entry }

-- a slot of the first header: its id, and 1 for itself and 1 for every equal slot of the later headers; 0 is no vote
unfoldable pub slot_entry : List ℕ → ℕ → Entry
slot_entry later b = cond (b == 0) no_entry (record { id = signed_of 8 b; count = suc (count (nat_eq b) later) })

-- the tally of whole headers, the first of them the epoch's boundary
unfoldable pub seeded : List ℕ → Tally
seeded (a ∷ b ∷ c ∷ later) = record { first = slot_entry later a; second = slot_entry later b; third = slot_entry later c }
seeded [] = no_tally
seeded (a ∷ []) = no_tally
seeded (a ∷ b ∷ []) = no_tally

-- the first header's height is the boundary minus the length: only then there are seeds
unfoldable pub seeds : (first_height boundary_height length : ℕ) → Bool
seeds first_height boundary_height length = first_height + length == boundary_height

unfoldable pub tally_votes_seeded : (first_height : ℕ) → List ℕ → (boundary_height length : ℕ) → Result Tally Refusal
tally_votes_seeded first_height votes boundary_height length' =
    cond (nat_lt 65536 (length votes / 3)) (Err InputLong) (Ok (cond (seeds first_height boundary_height length') (seeded (whole votes)) no_tally))

-- the entries of a tally in order: a place with id 0 holds none
unfoldable pub entry : Entry → List Entry → List Entry
entry e es = cond (eq_z e.id (pos 0)) es (e ∷ es)

unfoldable pub entries : Tally → List Entry
entries y = entry y.first (entry y.second (entry y.third []))

-- the count of the first entry of an id, else 0
unfoldable pub first_count : ℤ → List Entry → ℕ
first_count v [] = 0
first_count v (e ∷ es) = cond (eq_z e.id v) e.count (first_count v es)

-- the first of these headers votes b
unfoldable pub first_votes : ℕ → List (List ℕ) → Bool
first_votes b [] = false
first_votes b (h ∷ hs) = votes_for b h

-- the votes b that are counted in an epoch, by its vote bytes: the headers that vote b if the boundary header does, else none
unfoldable pub counted_for : ℕ → List ℕ → ℕ
counted_for b bytes = cond (first_votes b (headers bytes)) (count (votes_for b) (headers bytes)) 0
