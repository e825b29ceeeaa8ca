-- A section: a number of items that stand one after another in bytes. docs/RULES.md, "Extension body and match" and "Settings update".
-- Assumes nothing.
use Rattle.std.specs.Prelude.{Result, Ok, Err, ℕ, zero, suc, ◌-◌, ◌≤◌, Bool, false, ◌||◌, ◌≡◌, List, [], ◌∷◌, length, take, drop}
use Rattle.extension.specs.declared.section.Section.{Section}
use Rattle.codec.specs.declared.refusal.Refusal.{Refusal}
use Rattle.codec.specs.Check.{Check, passed}

-- what stands at a position: an item and the position after it, or the refusal
pub data Reading (A : Type 0) : Type 0 where
  got : A → ℕ → Reading A
  bad : Refusal → Reading A

-- items one after another; then the position after the last, or the refusal that the next one met
pub data Listing (A : Type 0) : Type 0 where
  done : ℕ → Listing A
  stop : Refusal → Listing A
  item : A → Listing A → Listing A

unfoldable pub after : {A : Type 0} → Reading A → (ℕ → Listing A) → Listing A
after (got a next) rest = item a (rest next)
after (bad e) rest = stop e

-- n items from a position on
unfoldable pub listing : {A : Type 0} → (ℕ → Reading A) → ℕ → ℕ → Listing A
listing read zero at = done at
listing read (suc n) at = after (read at) (listing read n)

-- the items that were read
unfoldable pub items : {A : Type 0} → Listing A → List A
items (done at) = []
items (stop e) = []
items (item a l) = a ∷ items l

-- whether all were read
unfoldable pub all_read : {A : Type 0} → Listing A → Check
all_read (done at) = passed
all_read (stop e) = Err e
all_read (item a l) = all_read l

abbrev pub section : ℕ → ℕ → ℕ → Section
section n begin end = record { count = n; begin = begin; end = end }

abbrev pub no_section : Section
no_section = section 0 0 0

-- n items that begin at a position, once they are read: where they end, or the refusal
unfoldable pub closed : {A : Type 0} → ℕ → ℕ → Listing A → Result Section Refusal
closed n begin (done end) = Ok (section n begin end)
closed n begin (stop e) = Err e
closed n begin (item a l) = closed n begin l

-- the items of a section
unfoldable pub section_items : {A : Type 0} → (ℕ → Reading A) → Section → List A
section_items read x = items (listing read x.count x.begin)

-- whether an element of a list passes a test
unfoldable pub any : {A : Type 0} → (A → Bool) → List A → Bool
any p [] = false
any p (x ∷ xs) = p x || any p xs

-- the bytes from a start to an end
abbrev pub part : List ℕ → ℕ → ℕ → List ℕ
part s start end = take (end - start) (drop start s)

-- a start and an end that lie inside, and what stands between them
pub record PartIs (s : List ℕ) (start end : ℕ) (bytes : List ℕ) : Type 0 where
  pub ordered : start ≤ end
  pub inside : end ≤ length s
  pub is : part s start end ≡ bytes
