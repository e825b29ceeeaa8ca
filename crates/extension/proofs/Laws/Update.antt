-- Rules and statuses at a position, and the tests of an update in order.
-- Assumes nothing.
use mathlib.Core.Path.{◌≡◌, refl, sym, ap, subst}
use mathlib.Core.Bool.{Bool, true, false, cond, ◌||◌}
use mathlib.Core.List.{List, [], ◌∷◌}
use Prim.Native.Nat.{ℕ, ◌+◌, ◌-◌, ◌≤◌, ◌<◌}
use native.Mathlib.Omega.{arith}
use borrow.Author.Tests.{lt-ltb, le-ltb, ltb-false, eq-eqb, ne_eqb}
use lib.Dec.{ltb, eqb}
use lib.IntN.{ℤ}
use lib.ListN.{length, get_or}
use Rattle.std.specs.Prelude.{Option, Some, None, Result, Ok, Err}
use Rattle.std.specs.Option.{ok_or, option_map}
use Rattle.extension.specs.declared.body.Head.{Head}
use Rattle.codec.specs.declared.refusal.Refusal.{Refusal}
use Rattle.codec.specs.declared.refusal.Refusal.TheVariants.{UpdateUnreadable, MandatoryDisabled, InputLong}
use Rattle.codec.specs.Check.{and_then}
use Rattle.codec.specs.Vlq.{vlq_at}
use Rattle.codec.specs.Rule.{rule_of}
use Rattle.codec.specs.declared.rule.RuleId.{RuleId}
use Rattle.codec.specs.declared.vlq.Number.{Number}
use Rattle.voting.proofs.Laws.Tests.{then_ok}
use Rattle.extension.specs.declared.section.Section.{Section}
use Rattle.extension.specs.declared.update.RulePlace.{RulePlace}
use Rattle.extension.specs.declared.update.StatusPlace.{StatusPlace}
use Rattle.extension.specs.declared.update.Update.{Update}
use Rattle.extension.specs.declared.update.Proposed.{Proposed}
use Rattle.extension.specs.declared.update.Rules.{Rules}
use Rattle.extension.specs.Section.{Reading, got, bad, Listing, done, item, listing, items, section, closed, section_items, part, any}
use Rattle.extension.specs.Mandatory.{mandatory_rule}
use Rattle.extension.specs.Update.{placed_rule, rule_at, rule_reading, read_rule, Status, placed_status, offset_then, status_at, status_reading, read_status, update_rule, update_status, raw_of, status_raw, count_in, items_from, no_update, with_rules, update_of, rules_in, disables, proposed_of}
use Rattle.extension.specs.Rules.{surveyed, rules_of}
use Rattle.extension.proofs.Laws.Section.{listing-stop, listing-item, items-stop, items-item, no_items}

-- the rule at a position
module _ (s : List ℕ) (at : ℕ) where
  pub rule-unreadable : None ≡ vlq_at 16 s at → Err UpdateUnreadable ≡ rule_at s at
  unfolding rule_at placed_rule
  rule-unreadable e = rw (← e)

  pub rule-here : (m : Number) → Some m ≡ vlq_at 16 s at → Ok (record { id = m.value; next = m.next }) ≡ rule_at s at
  unfolding rule_at placed_rule
  rule-here m e = rw (← e)

  pub rule-read : (x : RulePlace) → Ok x ≡ rule_at s at → read_rule s at ≡ got x.id x.next
  unfolding read_rule rule_reading
  rule-read x e = rw (← e)

  pub rule-unread : (e : Refusal) → Err e ≡ rule_at s at → read_rule s at ≡ bad e
  unfolding read_rule rule_reading
  rule-unread e q = rw (← q)

  -- the rules that are left, by the one read here
  module _ (n : ℕ) (h : 0 < n) where
    pub rule-listed : (x : RulePlace) → Ok x ≡ rule_at s at → items (listing (read_rule s) n at) ≡ x.id ∷ items (listing (read_rule s) (n - 1) x.next)
    rule-listed x e = items-item _ _ _ (listing-item (read_rule s) n at h x.id x.next (rule-read x e))

    pub rule-ends : (e : Refusal) → Err e ≡ rule_at s at → items (listing (read_rule s) n at) ≡ []
    rule-ends e q = items-stop _ _ (listing-stop (read_rule s) n at h e (rule-unread e q))

  pub rule-long : 65536 < length s → Err InputLong ≡ update_rule s at
  unfolding update_rule
  rule-long h = rw (lt-ltb _ _ h)

  pub rule-short : length s ≤ 65536 → rule_at s at ≡ update_rule s at
  unfolding update_rule
  rule-short h = rw (le-ltb _ _ h)

-- the status at a position, after its offset
module _ (s : List ℕ) (rule : RuleId) (at : ℕ) where
  pub size-unreadable : None ≡ vlq_at 16 s at → Err UpdateUnreadable ≡ placed_status s rule.0 (vlq_at 16 s at)
  unfolding placed_status
  size-unreadable e = rw (← e)

  module _ (m : Number) (e : Some m ≡ vlq_at 16 s at) where
    pub raw-cut : length s < m.next + 1 + m.value → Err UpdateUnreadable ≡ placed_status s rule.0 (vlq_at 16 s at)
    unfolding placed_status
    raw-cut h = rw (← e, lt-ltb _ _ h)

    pub raw-here : m.next + 1 + m.value ≤ length s
        → Ok (record { rule = rule; code = get_or s m.next 0; start = m.next + 1; end = m.next + 1 + m.value }) ≡ placed_status s rule.0 (vlq_at 16 s at)
    unfolding placed_status
    raw-here h = rw (← e, le-ltb _ _ h)

abbrev pub status_in : List ℕ → StatusPlace → Status
status_in s x = record { rule = x.rule.0; code = x.code; raw = part s x.start x.end }

module _ (s : List ℕ) (at : ℕ) where
  pub offset-unreadable : None ≡ vlq_at 16 s at → Err UpdateUnreadable ≡ status_at s at
  unfolding status_at offset_then
  offset-unreadable e = rw (← e)

  pub offset-here : (m : Number) → Some m ≡ vlq_at 16 s at → (rule : ℤ) → rule ≡ rule_of m.value → placed_status s rule (vlq_at 16 s m.next) ≡ status_at s at
  unfolding status_at offset_then
  offset-here m e rule q = rw (← e, q)

  pub status-read : (x : StatusPlace) → Ok x ≡ status_at s at → read_status s at ≡ got (status_in s x) x.end
  unfolding read_status status_reading
  status-read x e = rw (← e)

  pub status-unread : (e : Refusal) → Err e ≡ status_at s at → read_status s at ≡ bad e
  unfolding read_status status_reading
  status-unread e q = rw (← q)

  pub status-long : 65536 < length s → Err InputLong ≡ update_status s at
  unfolding update_status
  status-long h = rw (lt-ltb _ _ h)

  pub status-short : length s ≤ 65536 → status_at s at ≡ update_status s at
  unfolding update_status
  status-short h = rw (le-ltb _ _ h)

  pub raw-is : (x : StatusPlace) → Ok x ≡ update_status s at → part s x.start x.end ≡ status_raw s at
  unfolding status_raw raw_of
  raw-is x e = rw (← e)

  pub raw-none : (e : Refusal) → Err e ≡ update_status s at → [] ≡ status_raw s at
  unfolding status_raw raw_of
  raw-none e q = rw (← q)

-- the raw bytes of a status lie inside
sized_inside : (s : List ℕ) (rule : ℤ) (r : Option Number) (x : StatusPlace) → Ok x ≡ placed_status s rule r → (x.start ≤ x.end) × (x.end ≤ length s)
unfolding placed_status
sized_inside s rule None x e = cc
sized_inside s rule (Some m) x e = go (ltb (length s) (m.next + 1 + m.value)) refl e
  where
    go : (p : Bool) → ltb (length s) (m.next + 1 + m.value) ≡ p
        → Ok x ≡ cond p (Err UpdateUnreadable) (Ok (record { rule = record { 0 = rule }; code = get_or s m.next 0; start = m.next + 1; end = m.next + 1 + m.value }))
        → (x.start ≤ x.end) × (x.end ≤ length s)
    go true h q = cc
    go false h q =
        let es : x.start ≡ m.next + 1 = cc in
        let ee : x.end ≡ m.next + 1 + m.value = cc in
        (omega arith, omega (arith, ltb-false (length s) (m.next + 1 + m.value) h))

pub status-inside : (s : List ℕ) (at : ℕ) (x : StatusPlace) → Ok x ≡ status_at s at → (x.start ≤ x.end) × (x.end ≤ length s)
unfolding status_at offset_then
status-inside s at x e = go (vlq_at 16 s at) e
  where
    go : (r : Option Number) → Ok x ≡ offset_then s r → (x.start ≤ x.end) × (x.end ≤ length s)
    go None q = cc
    go (Some m) q = sized_inside s (rule_of m.value) (vlq_at 16 s m.next) x q

pub raw-inside : (s : List ℕ) (at : ℕ) (x : StatusPlace) → Ok x ≡ update_status s at → (x.start ≤ x.end) × (x.end ≤ length s)
unfolding update_status
raw-inside s at x e = go (ltb 65536 (length s)) e
  where
    go : (p : Bool) → Ok x ≡ cond p (Err InputLong) (status_at s at) → (x.start ≤ x.end) × (x.end ≤ length s)
    go true q = cc
    go false q = status-inside s at x q

-- a count
pub count_small : (n : ℕ) → n < 2147483648 → n ≡ count_in n
unfolding count_in
count_small n h = rw (lt-ltb _ _ h)

pub count-large : (n : ℕ) → 2147483648 ≤ n → 0 ≡ count_in n
unfolding count_in
count-large n h = rw (le-ltb _ _ h)

-- a count, and where what it counts begins
abbrev pub head_in : Option Number → Result Head Refusal
head_in r = ok_or (option_map (λ (m : Number). record { count = count_in m.value; begin = m.next }) r) UpdateUnreadable

-- a section, by what its count reads
module _ {A : Type 0} (read : ℕ → Reading A) where
  pub from-unreadable : (r : Option Number) (e : Refusal) → Err e ≡ head_in r → Err e ≡ items_from read r
  unfolding items_from
  from-unreadable None e q = let same : e ≡ UpdateUnreadable = cc in ap Err same
  from-unreadable (Some m) e q = cc

  pub from-count : (r : Option Number) (h : Head) → Ok h ≡ head_in r → closed h.count h.begin (listing read h.count h.begin) ≡ items_from read r
  unfolding items_from
  from-count None h q = cc
  from-count (Some m) h q = let e : h ≡ record { count = count_in m.value; begin = m.next } = cc in rw e

-- ---- the rules in one pass

or_assoc : (a b c : Bool) → ((a || b) || c) ≡ (a || (b || c))
or_assoc true b c = refl
or_assoc false b c = refl

or-false : (a : Bool) → (a || false) ≡ a
or-false true = refl
or-false false = refl

-- a test gathered over the items that are read
module _ {A : Type 0} (p : A → Bool) (l : Listing A) where
  pub gather-item : (a : A) (rest : Listing A) → l ≡ item a rest → (so_far here : Bool) → here ≡ p a → ((so_far || here) || any p (items rest)) ≡ (so_far || any p (items l))
  unfolding items any
  gather-item a rest e so_far here q = rw (e, q) (or_assoc so_far (p a) (any p (items rest)))

  pub gather-done : (at : ℕ) → l ≡ done at → (so_far : Bool) → so_far ≡ (so_far || any p (items l))
  unfolding items any
  gather-done at e so_far = rw e (sym (or-false so_far))

-- rules that can't be read, and rules that are
module _ (s : List ℕ) (rule : ℕ) (x : Result Section Refusal) where
  pub rules-refused : (e : Refusal) → Err e ≡ x → Err e ≡ rules_of s rule x
  unfolding rules_of
  rules-refused e q = rw (← q)

  pub rules-ended : (count begin end : ℕ) → Ok (section count begin end) ≡ x → (m l : Bool)
      → m ≡ any mandatory_rule (items (listing (read_rule s) count begin)) → l ≡ any (eqb rule) (items (listing (read_rule s) count begin))
      → Ok (record { section = section count begin end; mandatory = m; listed = l }) ≡ rules_of s rule x
  unfolding rules_of surveyed section_items
  rules-ended count begin end q m l is_m is-l = rw (← q, is_m, is-l)

  pub rules-surveyed : (r : Rules) → Ok r ≡ rules_of s rule x → r ≡ surveyed s rule r.section
  unfolding rules_of surveyed
  rules-surveyed r q =
      let t = then_ok x (λ y. Ok (surveyed s rule y)) (sym q) in
      let e : surveyed s rule t.0 ≡ r = cc in
      subst (λ (y : Rules). y ≡ surveyed s rule y.section) e refl

-- ---- a whole update

-- what is proposed, by the update, and after the rules were read
abbrev pub proposed : List ℕ → ℕ → Update → Result Proposed Refusal
proposed s rule u = Ok (record { update = u; disables = disables s u rule })

module _ (s : List ℕ) (rule : ℕ) (rules : Rules) where
  abbrev pub proposed_after : Result Proposed Refusal
  proposed_after = and_then (with_rules s rules.section) (proposed s rule)

  module _ (is : rules ≡ surveyed s rule rules.section) where
    mandatory-is : rules.mandatory ≡ any mandatory_rule (section_items (read_rule s) rules.section)
    unfolding surveyed
    mandatory-is = ap (λ (r : Rules). r.mandatory) is

    pub rules-mandatory : rules.mandatory ≡ true → Err MandatoryDisabled ≡ proposed_after
    unfolding with_rules
    rules-mandatory t = rw (← mandatory-is, t)

    module _ (t : rules.mandatory ≡ false) where
      pub statuses-refused : (e : Refusal) → Err e ≡ items_from (read_status s) (vlq_at 32 s rules.section.end) → Err e ≡ proposed_after
      unfolding with_rules
      statuses-refused e q = rw (← mandatory-is, t, ← q)

      pub statuses-here : (x : Section) → Ok x ≡ items_from (read_status s) (vlq_at 32 s rules.section.end)
          → Ok (record { update = record { rules = rules.section; statuses = x }; disables = rules.listed }) ≡ proposed_after
      unfolding with_rules disables rules_in surveyed
      statuses-here x q =
          let l : rules.listed ≡ any (eqb rule) (section_items (read_rule s) rules.section) = ap (λ (r : Rules). r.listed) is in
          rw (← mandatory-is, t, ← q, l)

module _ (s : List ℕ) (rule : ℕ) where
  disables-none : false ≡ disables s no_update rule
  unfolding disables rules_in any
  disables-none = sym (ap (any (eqb rule)) (no_items (read_rule s)))

  -- by the tests in order
  pub proposed-long : 65536 < length s → Err InputLong ≡ proposed_of s rule
  unfolding proposed_of update_of
  proposed-long h = rw (lt-ltb _ _ h)

  module _ (h : length s ≤ 65536) where
    pub proposed-empty : length s ≡ 0 → (n : Update) → n ≡ no_update → Ok (record { update = n; disables = false }) ≡ proposed_of s rule
    unfolding proposed_of update_of
    proposed-empty e n q = rw (le-ltb _ _ h, eq-eqb _ _ e, q, ← disables-none)

    module _ (d : length s ≡ 0 → ⊥) where
      pub proposed-unread : (e : Refusal) → Err e ≡ rules_of s rule (items_from (read_rule s) (vlq_at 32 s 0)) → Err e ≡ proposed_of s rule
      unfolding proposed_of update_of rules_of
      proposed-unread e q = rw (le-ltb _ _ h, ne_eqb _ _ d) (go (items_from (read_rule s) (vlq_at 32 s 0)) q)
        where
          go : (x : Result Section Refusal) → Err e ≡ and_then x (λ y. Ok (surveyed s rule y))
              → Err e ≡ and_then (and_then x (with_rules s)) (proposed s rule)
          go (Ok y) q = cc
          go (Err f) q = cc

      pub proposed-read : (r : Rules) → Ok r ≡ rules_of s rule (items_from (read_rule s) (vlq_at 32 s 0)) → proposed_after s rule r ≡ proposed_of s rule
      unfolding proposed_of update_of rules_of surveyed
      proposed-read r q =
          let t = then_ok (items_from (read_rule s) (vlq_at 32 s 0)) (λ y. Ok (surveyed s rule y)) (sym q) in
          let e : surveyed s rule t.0 ≡ r = cc in
          rw (le-ltb _ _ h, ne_eqb _ _ d, t.1) (ap (λ (y : Rules). proposed_after s rule y) (sym e))

  -- the update of what is proposed, and the rule
  pub update-refused : (e : Refusal) → Err e ≡ proposed_of s rule → Err e ≡ update_of s
  unfolding proposed_of
  update-refused e q = go (update_of s) q
    where
      go : (x : Result Update Refusal) → Err e ≡ and_then x (proposed s rule) → Err e ≡ x
      go (Ok u) q = cc
      go (Err f) q = let same : e ≡ f = cc in ap Err same

  pub update-read : (p : Proposed) → Ok p ≡ proposed_of s rule → Ok p.update ≡ update_of s
  unfolding proposed_of
  update-read p q = go (update_of s) q
    where
      go : (x : Result Update Refusal) → Ok p ≡ and_then x (proposed s rule) → Ok p.update ≡ x
      go (Ok u) q = let e : p ≡ record { update = u; disables = disables s u rule } = cc in ap (λ (y : Proposed). Ok y.update) e
      go (Err f) q = cc

  pub update-disables : (p : Proposed) → Ok p ≡ proposed_of s rule → p.disables ≡ disables s p.update rule
  unfolding proposed_of
  update-disables p q = go (update_of s) q
    where
      go : (x : Result Update Refusal) → Ok p ≡ and_then x (proposed s rule) → p.disables ≡ disables s p.update rule
      go (Ok u) q =
          let e : p ≡ record { update = u; disables = disables s u rule } = cc in
          subst (λ (y : Proposed). y.disables ≡ disables s y.update rule) (sym e) refl
      go (Err f) q = cc
