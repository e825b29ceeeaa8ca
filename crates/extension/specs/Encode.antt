-- Settings updates as they are written, and an update read and written again. docs/RULES.md, "Settings update" and "Writers and rest". What
-- the writers answer stands in crates/writers/specs/Encode.antt.
-- Assumes nothing.
use Rattle.std.specs.Prelude.{Result, Ok, Err, ℕ, zero, suc, ◌+◌, ◌<◌, Bool, false, cond, ◌&&◌, ◌||◌, ◌≡◌, List, [], ◌∷◌, ◌++◌, ltb, eqb, ℤ, pos, length, take, drop, Option, Some, None}
use Rattle.std.specs.Int.Signed.{lt_z}
use Rattle.codec.specs.declared.refusal.Refusal.TheVariants.{UpdateUnreadable, InputLong, StatusRuleLow}
use Rattle.codec.specs.Rule.{first_rule, offset_of}
use Rattle.codec.specs.Vlq.{vlq_at, vlq_bytes}
use Rattle.codec.specs.declared.vlq.Number.{Number}
use Rattle.codec.specs.declared.refusal.Refusal.{Refusal}
use Rattle.codec.specs.Check.{Check, passed}
use Rattle.extension.specs.declared.update.StatusPlace.{StatusPlace}
use Rattle.extension.specs.declared.update.Update.{Update}
use Rattle.extension.specs.Section.{part, any}
use Rattle.extension.specs.Update.{Status, status_at, rules_in, statuses_in}

unfoldable pub rules_bytes : List ℕ → List ℕ
rules_bytes [] = []
rules_bytes (r ∷ rs) = vlq_bytes r ++ rules_bytes rs

-- offset, size, code, raw bytes
unfoldable pub status_bytes : Status → List ℕ
status_bytes x = vlq_bytes (offset_of x.rule) ++ vlq_bytes (length x.raw) ++ x.code ∷ x.raw

unfoldable pub statuses_bytes : List Status → List ℕ
statuses_bytes [] = []
statuses_bytes (x ∷ xs) = status_bytes x ++ statuses_bytes xs

unfoldable pub encoded : List ℕ → List Status → List ℕ
encoded rules statuses = vlq_bytes (length rules) ++ rules_bytes rules ++ vlq_bytes (length statuses) ++ statuses_bytes statuses

-- statuses as a caller hands them over: rule ids, codes, sizes, and the raw bytes of all of them one after another
unfoldable pub status_list : List ℤ → List ℕ → List ℕ → List ℕ → List Status
status_list [] codes sizes raw = []
status_list (i ∷ ids) [] sizes raw = []
status_list (i ∷ ids) (c ∷ codes) [] raw = []
status_list (i ∷ ids) (c ∷ codes) (n ∷ sizes) raw =
    record { rule = i; code = c; raw = take n raw } ∷ status_list ids codes sizes (drop n raw)

unfoldable pub sum : List ℕ → ℕ
sum [] = 0
sum (n ∷ ns) = n + sum ns

-- as many codes and sizes as ids, and as many raw bytes as the sizes say
unfoldable pub agree : List ℤ → List ℕ → List ℕ → List ℕ → Bool
agree ids codes sizes raw = eqb (length codes) (length ids) && eqb (length sizes) (length ids) && eqb (sum sizes) (length raw)

unfoldable pub low_rule : ℤ → Bool
low_rule id = lt_z id (pos first_rule)

-- more than 65,536 rules or statuses, or over 65,535 bytes in one status
unfoldable pub too_large : List ℕ → List ℤ → List ℕ → List ℕ → Bool
too_large rules ids codes sizes =
    ltb 65536 (length rules) || ltb 65536 (length ids) || ltb 65536 (length codes) || ltb 65536 (length sizes) || any (ltb 65535) sizes

-- 22, then 23, then 7 where the lists disagree
unfoldable pub check_update : List ℕ → List ℤ → List ℕ → List ℕ → List ℕ → Check
check_update rules ids codes sizes raw =
    cond (too_large rules ids codes sizes) (Err InputLong)
    (cond (any low_rule ids) (Err StatusRuleLow) (cond (agree ids codes sizes raw) passed (Err UpdateUnreadable)))

-- statuses taken apart, as a caller hands them over
unfoldable pub ids_of : List Status → List ℤ
ids_of [] = []
ids_of (x ∷ xs) = x.rule ∷ ids_of xs

unfoldable pub codes_of : List Status → List ℕ
codes_of [] = []
codes_of (x ∷ xs) = x.code ∷ codes_of xs

unfoldable pub sizes_of : List Status → List ℕ
sizes_of [] = []
sizes_of (x ∷ xs) = length x.raw ∷ sizes_of xs

unfoldable pub all_raw : List Status → List ℕ
all_raw [] = []
all_raw (x ∷ xs) = x.raw ++ all_raw xs

-- a number that was read at a position stood there in shortest form
abbrev pub Short : List ℕ → ℕ → Option Number → Type 0
Short s at None = Unit {0}
Short s at (Some m) = part s at m.next ≡ vlq_bytes m.value

abbrev pub next_of : Option Number → ℕ
next_of None = 0
next_of (Some m) = m.next

abbrev pub end_of : Result StatusPlace Refusal → ℕ
end_of (Ok x) = x.end
end_of (Err e) = 0

abbrev pub ShortRules : ℕ → List ℕ → ℕ → Type 0
ShortRules zero s at = Unit {0}
ShortRules (suc n) s at = Short s at (vlq_at 16 s at) × ShortRules n s (next_of (vlq_at 16 s at))

-- the offset and the size of each
abbrev pub ShortStatuses : ℕ → List ℕ → ℕ → Type 0
ShortStatuses zero s at = Unit {0}
ShortStatuses (suc n) s at =
    Short s at (vlq_at 16 s at) × Short s (next_of (vlq_at 16 s at)) (vlq_at 16 s (next_of (vlq_at 16 s at))) × ShortStatuses n s (end_of (status_at s at))

-- an update with bytes, every number in shortest form and every count under 2^31, no byte after the last status, and no status rule id
-- under 1,000
pub record ShortUpdate (s : List ℕ) (u : Update) : Type 0 where
  pub nonempty : 0 < length s
  pub rules-count : part s 0 u.rules.begin ≡ vlq_bytes u.rules.count
  pub rules-short : ShortRules u.rules.count s u.rules.begin
  pub statuses-count : part s u.rules.end u.statuses.begin ≡ vlq_bytes u.statuses.count
  pub statuses-short : ShortStatuses u.statuses.count s u.statuses.begin
  pub no-rest : u.statuses.end ≡ length s
  pub none-low : any low_rule (ids_of (statuses_in s u)) ≡ false

-- it is what the writer gives for its rules and its statuses
pub record UpdateBack (s : List ℕ) (rules : List ℕ) (statuses : List Status) : Type 0 where
  pub accepted : check_update rules (ids_of statuses) (codes_of statuses) (sizes_of statuses) (all_raw statuses) ≡ passed
  pub together : status_list (ids_of statuses) (codes_of statuses) (sizes_of statuses) (all_raw statuses) ≡ statuses
  pub same_bytes : encoded rules statuses ≡ s

abbrev pub UpdateAgain : List ℕ → Result Update Refusal → Type 0
UpdateAgain s r = (u : Update) → r ≡ Ok u → ShortUpdate s u → UpdateBack s (rules_in s u) (statuses_in s u)
