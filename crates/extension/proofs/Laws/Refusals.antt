-- No test of this crate but the match answers 15.
-- Assumes nothing.
use mathlib.Core.Bool.{Bool, true, false, cond}
use mathlib.Core.List.{List}
use Prim.Native.Nat.{ℕ, zero, suc, ◌+◌}
use lib.Dec.{ltb, eqb}
use lib.IntN.{ℤ}
use lib.ListN.{length, get_or}
use Rattle.std.specs.Prelude.{Option, Some, None, Result, Ok, Err}
use Rattle.std.specs.Result.{result_and}
use Rattle.codec.specs.declared.refusal.Refusal.{Refusal}
use Rattle.codec.specs.declared.refusal.Refusal.TheVariants.{BodyShort, FieldHeaderCut, ValueLong, ValueCut, ParameterSize, UpdateUnreadable, MandatoryDisabled, InputLong}
use Rattle.codec.specs.Check.{and_then, passed}
use Rattle.codec.specs.Rule.{rule_of}
use Rattle.codec.specs.Vlq.{vlq_at}
use Rattle.codec.specs.declared.vlq.Number.{Number}
use Rattle.voting.specs.Boundary.{boundary_of}
use Rattle.voting.specs.declared.settings.VotingConfig.{VotingConfig}
use Rattle.voting.specs.declared.table.Table.{Table}
use Rattle.voting.specs.declared.tally.Entry.{Entry}
use Rattle.voting.proofs.Laws.Refusals.{IsOther, Other, and-other, then-other, boundary-other}
use Rattle.extension.specs.declared.body.FieldPlace.{FieldPlace}
use Rattle.extension.specs.declared.section.Section.{Section}
use Rattle.extension.specs.declared.update.StatusPlace.{StatusPlace}
use Rattle.extension.specs.declared.update.Update.{Update}
use Rattle.extension.specs.Section.{Reading, got, bad, after, listing, closed, section_items, any}
use Rattle.extension.specs.Body.{Field, field_at, field_reading, read_field, fields_from, extension_of, fields_of, wrong_parameter, check_sizes, check_body}
use Rattle.extension.specs.Mandatory.{mandatory_rule}
use Rattle.extension.specs.Update.{placed_rule, rule_at, rule_reading, read_rule, placed_status, offset_then, status_at, status_reading, read_status, count_in, items_from, no_update, with_rules, update_of, disables}
use Rattle.extension.specs.Boundary.{computed_of}

-- a list of items, by the refusals of one
abbrev Unlike : {A : Type 0} → Reading A → Type 0
Unlike (got a next) = Unit {0}
Unlike (bad e) = IsOther e

listing-other : {A : Type 0} (read : ℕ → Reading A) → ((at : ℕ) → Unlike (read at)) → (left n begin at : ℕ) → Other (closed n begin (listing read left at))
unfolding listing closed after
listing-other read h zero n begin at = tt
listing-other read h (suc left) n begin at = go (listing-other read h left n begin) (read at) (h at)
  where
    go : ((at : ℕ) → Other (closed n begin (listing read left at))) → (r : Reading _) → Unlike r → Other (closed n begin (after r (listing read left)))
    go k (got a next) u = k next
    go k (bad e) u = u

-- a body: 22, 1 to 6
field-other : (s : List ℕ) (at : ℕ) → Unlike (read_field s at)
unfolding read_field field_reading field_at
field-other s at = go (ltb (length s) (at + 3)) (ltb 64 (get_or s (at + 2) 0)) (ltb (length s) (at + 3 + get_or s (at + 2) 0)) _
  where
    go : (a b c : Bool) (f : FieldPlace) → Unlike (field_reading s (cond a (Err FieldHeaderCut) (cond b (Err ValueLong) (cond c (Err ValueCut) (Ok f)))))
    go true b c f = λ q. cc
    go false true c f = λ q. cc
    go false false true f = λ q. cc
    go false false false f = tt

fields-other : (body : List ℕ) (r : Option Number) → Other (fields_from body r)
unfolding fields_from
fields-other body None = λ q. cc
fields-other body (Some m) = listing-other (read_field body) (field-other body) m.value m.value m.next m.next

extension-other : (body : List ℕ) → Other (extension_of body)
unfolding extension_of
extension-other body = go (ltb 65536 (length body)) (ltb (length body) 32)
  where
    go : (a b : Bool) → Other (cond a (Err InputLong) (cond b (Err BodyShort) (fields_from body (vlq_at 32 body 32))))
    go true b = λ q. cc
    go false true = λ q. cc
    go false false = fields-other body (vlq_at 32 body 32)

sizes-other : (fs : List Field) → Other (check_sizes fs)
unfolding check_sizes
sizes-other fs = go (any wrong_parameter fs)
  where
    go : (a : Bool) → Other (cond a (Err ParameterSize) passed)
    go true = λ q. cc
    go false = tt

pub body-other : (body : List ℕ) → Other (check_body body)
unfolding check_body
body-other body =
    and-other (extension_of body) (result_and (check_sizes (fields_of body)) (extension_of body)) (extension-other body)
    (and-other (check_sizes (fields_of body)) (extension_of body) (sizes-other (fields_of body)) (extension-other body))

-- an update: 22, 7 and 8
rule-other : (s : List ℕ) (at : ℕ) → Unlike (read_rule s at)
unfolding read_rule rule_reading rule_at placed_rule
rule-other s at = go (vlq_at 16 s at)
  where
    go : (r : Option Number) → Unlike (rule_reading (placed_rule r))
    go None = λ q. cc
    go (Some m) = tt

status-other : (s : List ℕ) (at : ℕ) → Unlike (read_status s at)
unfolding read_status status_reading status_at offset_then placed_status
status-other s at = go (vlq_at 16 s at)
  where
    whole : (a : Bool) (p : StatusPlace) → Unlike (status_reading s (cond a (Err UpdateUnreadable) (Ok p)))
    whole true p = λ q. cc
    whole false p = tt

    placed : (rule : ℤ) (r : Option Number) → Unlike (status_reading s (placed_status s rule r))
    placed rule None = λ q. cc
    placed rule (Some m) = whole (ltb (length s) (m.next + 1 + m.value)) _

    go : (r : Option Number) → Unlike (status_reading s (offset_then s r))
    go None = λ q. cc
    go (Some m) = placed (rule_of m.value) (vlq_at 16 s m.next)

items-other : {A : Type 0} (read : ℕ → Reading A) → ((at : ℕ) → Unlike (read at)) → (r : Option Number) → Other (items_from read r)
unfolding items_from
items-other read h None = λ q. cc
items-other read h (Some m) = listing-other read h (count_in m.value) (count_in m.value) m.next m.next

rules-other : (s : List ℕ) (rules : Section) → Other (with_rules s rules)
unfolding with_rules
rules-other s rules =
    go (any mandatory_rule (section_items (read_rule s) rules)) _
    (then-other (items_from (read_status s) (vlq_at 32 s rules.end)) _ (items-other (read_status s) (status-other s) (vlq_at 32 s rules.end)) (λ statuses. tt))
  where
    go : (a : Bool) (r : Result Update Refusal) → Other r → Other (cond a (Err MandatoryDisabled) r)
    go true r h = λ q. cc
    go false r h = h

update_other : (s : List ℕ) → Other (update_of s)
unfolding update_of
update_other s = go (ltb 65536 (length s)) (eqb (length s) 0)
  where
    go : (a b : Bool) → Other (cond a (Err InputLong) (cond b (Ok no_update) (and_then (items_from (read_rule s) (vlq_at 32 s 0)) (with_rules s))))
    go true b = λ q. cc
    go false true = tt
    go false false = then-other (items_from (read_rule s) (vlq_at 32 s 0)) (with_rules s) (items-other (read_rule s) (rule-other s) (vlq_at 32 s 0)) (rules-other s)

-- the boundary with an update
pub computed-other : (g : VotingConfig) (height : ℕ) (t : Table) (tally : List Entry) (vote : Bool) (s : List ℕ) → Other (computed_of g height t tally vote s)
unfolding computed_of
computed-other g height t tally vote s =
    then-other (update_of s) _ (update_other s)
    (λ u. then-other (boundary_of g height t tally vote (disables s u 409)) _ (boundary-other g height t tally vote (disables s u 409)) (λ b. tt))
