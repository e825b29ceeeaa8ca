-- A settings update: rules to disable, and statuses of rules. docs/RULES.md, "Settings update".
-- Assumes nothing.
use Rattle.std.specs.Prelude.{Result, Ok, Err, ℕ, ◌+◌, ◌^◌, Bool, cond, List, [], ltb, eqb, ℤ, length, get_or, Option, Some, None}
use Rattle.codec.specs.declared.refusal.Refusal.TheVariants.{UpdateUnreadable, MandatoryDisabled, InputLong}
use Rattle.codec.specs.Vlq.{vlq_at}
use Rattle.codec.specs.Rule.{rule_of}
use Rattle.codec.specs.declared.vlq.Number.{Number}
use Rattle.extension.specs.declared.section.Section.{Section}
use Rattle.codec.specs.declared.refusal.Refusal.{Refusal}
use Rattle.codec.specs.Check.{and_then}
use Rattle.extension.specs.declared.update.RulePlace.{RulePlace}
use Rattle.extension.specs.declared.update.StatusPlace.{StatusPlace}
use Rattle.extension.specs.declared.update.Update.{Update}
use Rattle.extension.specs.declared.update.Proposed.{Proposed}
use Rattle.extension.specs.Section.{Reading, got, bad, listing, closed, section_items, no_section, part, any}
use Rattle.extension.specs.Mandatory.{mandatory_rule}

-- the rule at a position: a number of 16 bits
unfoldable pub placed_rule : Option Number → Result RulePlace Refusal
placed_rule None = Err UpdateUnreadable
placed_rule (Some m) = Ok (record { id = m.value; next = m.next })

unfoldable pub rule_at : List ℕ → ℕ → Result RulePlace Refusal
rule_at s at = placed_rule (vlq_at 16 s at)

unfoldable pub rule_reading : Result RulePlace Refusal → Reading ℕ
rule_reading (Ok x) = got x.id x.next
rule_reading (Err e) = bad e

unfoldable pub read_rule : List ℕ → ℕ → Reading ℕ
read_rule s at = rule_reading (rule_at s at)

-- the rule's id, the code, and the raw bytes
pub record Status : Type 0 where
  pub rule : ℤ
  pub code : ℕ
  pub raw : List ℕ

-- the status at a position: an offset, a size, a code byte, and that many raw bytes
unfoldable pub placed_status : List ℕ → ℤ → Option Number → Result StatusPlace Refusal
placed_status s rule None = Err UpdateUnreadable
placed_status s rule (Some m) =
    cond (ltb (length s) (m.next + 1 + m.value)) (Err UpdateUnreadable)
    (Ok
    (record {
      rule = record { 0 = rule };
      code = get_or s m.next 0;
      start = m.next + 1;
      end = m.next + 1 + m.value;
    }))

unfoldable pub offset_then : List ℕ → Option Number → Result StatusPlace Refusal
offset_then s None = Err UpdateUnreadable
offset_then s (Some m) = placed_status s (rule_of m.value) (vlq_at 16 s m.next)

unfoldable pub status_at : List ℕ → ℕ → Result StatusPlace Refusal
status_at s at = offset_then s (vlq_at 16 s at)

unfoldable pub status_reading : List ℕ → Result StatusPlace Refusal → Reading Status
status_reading s (Ok x) = got (record { rule = x.rule.0; code = x.code; raw = part s x.start x.end }) x.end
status_reading s (Err e) = bad e

unfoldable pub read_status : List ℕ → ℕ → Reading Status
read_status s at = status_reading s (status_at s at)

-- what a reader meets at a position of an update
unfoldable pub update_rule : List ℕ → ℕ → Result RulePlace Refusal
update_rule s at = cond (ltb 65536 (length s)) (Err InputLong) (rule_at s at)

unfoldable pub update_status : List ℕ → ℕ → Result StatusPlace Refusal
update_status s at = cond (ltb 65536 (length s)) (Err InputLong) (status_at s at)

-- the raw bytes of the status there; nothing where there is none
unfoldable pub raw_of : List ℕ → Result StatusPlace Refusal → List ℕ
raw_of s (Ok x) = part s x.start x.end
raw_of s (Err e) = []

unfoldable pub status_raw : List ℕ → ℕ → List ℕ
status_raw s at = raw_of s (update_status s at)

-- a count from 2^31 up reads as 0
unfoldable pub count_in : ℕ → ℕ
count_in n = cond (ltb n (2 ^ 31)) n 0

-- as many items as were counted, after the count
unfoldable pub items_from : {A : Type 0} → (ℕ → Reading A) → Option Number → Result Section Refusal
items_from read None = Err UpdateUnreadable
items_from read (Some m) = closed (count_in m.value) m.next (listing read (count_in m.value) m.next)

abbrev pub no_update : Update
no_update = record { rules = no_section; statuses = no_section }

-- the rules and then the statuses: 8 is tested after all rules are read and before the statuses are
unfoldable pub with_rules : List ℕ → Section → Result Update Refusal
with_rules s rules =
    cond (any mandatory_rule (section_items (read_rule s) rules)) (Err MandatoryDisabled)
    (and_then (items_from (read_status s) (vlq_at 32 s rules.end)) (λ statuses. Ok (record { rules = rules; statuses = statuses })))

-- no bytes are the empty update; bytes after the last status are ignored
unfoldable pub update_of : List ℕ → Result Update Refusal
update_of s =
    cond (ltb 65536 (length s)) (Err InputLong)
    (cond (eqb (length s) 0) (Ok no_update) (and_then (items_from (read_rule s) (vlq_at 32 s 0)) (with_rules s)))

-- the rules and the statuses that an update of these bytes has
unfoldable pub rules_in : List ℕ → Update → List ℕ
rules_in s u = section_items (read_rule s) u.rules

unfoldable pub statuses_in : List ℕ → Update → List Status
statuses_in s u = section_items (read_status s) u.statuses

-- whether an update disables a rule
unfoldable pub disables : List ℕ → Update → ℕ → Bool
disables s u rule = any (eqb rule) (rules_in s u)

-- an update, and whether it disables a rule
unfoldable pub proposed_of : List ℕ → ℕ → Result Proposed Refusal
proposed_of s rule = and_then (update_of s) (λ u. Ok (record { update = u; disables = disables s u rule }))
