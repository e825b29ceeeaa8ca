-- What was encoded is read back.
-- Assumes nothing.
use Rattle.std.proofs.Common.{◌≡◌, ℕ, suc, ◌+◌, ◌-◌, ◌^◌, ◌<◌, ◌≤◌, false, ltb, List, [], ◌∷◌, ◌++◌, length, get_or, drop, ℤ, pos, negsuc, sym, refl, ap, ◌∙◌, append_assoc, append-nil, add-zero, arith, length-append, length-drop, get_or-drop, w16, SFits, ltb-false, le-ltb, lt-ltb, ne_eqb}
use lib.Signed.{lt_z}
use lib.Seq.{take-append_seam}
use Rattle.codec.specs.Vlq.{vlq_at, vlq_bytes}
use Rattle.codec.specs.Rule.{offset_of}
use Rattle.std.specs.Prelude.{Some, Ok}
use Rattle.codec.specs.Check.{Check, passed}
use Rattle.codec.proofs.Laws.Rule.{offset-fits, rule-back}
use Rattle.codec.proofs.Laws.VlqTrip.{written-read-at, read-inside}
use Rattle.voting.specs.Common.{Each}
use Rattle.voting.proofs.Laws.Tests.{neither}
use Rattle.extension.specs.declared.update.Update.{Update}
use Rattle.extension.specs.Section.{Reading, got, Listing, done, item, after, listing, items, closed, section, section_items, any}
use Rattle.extension.specs.Mandatory.{mandatory_rule}
use Rattle.extension.specs.Update.{Status, placed_rule, rule_at, rule_reading, read_rule, placed_status, offset_then, status_at, status_reading, read_status, count_in, items_from, with_rules, update_of, rules_in, statuses_in}
use Rattle.extension.proofs.Laws.Parts.{drop_past}
use Rattle.extension.specs.Encode.{rules_bytes, status_bytes, statuses_bytes, encoded, status_list, low_rule, check_update}
use Rattle.writers.specs.Encode.{EncodedAgain}
use Rattle.writers.proofs.Laws.Sizes.{take-most}
use Rattle.writers.proofs.Laws.Encode.{status-length, agreed, statuses-count, accepted}

-- items that were all read, up to an end
abbrev listed : {A : Type 0} → List A → ℕ → Listing A
listed [] end = done end
listed (x ∷ xs) end = item x (listed xs end)

items-listed : {A : Type 0} (xs : List A) (end : ℕ) → items (listed xs end) ≡ xs
unfolding items
items-listed [] end = refl
items-listed {A} (x ∷ xs) end = ap (λ (ys : List A). x ∷ ys) (items-listed xs end)

closed-listed : {A : Type 0} (n begin : ℕ) (xs : List A) (end : ℕ) → closed n begin (listed xs end) ≡ Ok (section n begin end)
unfolding closed
closed-listed n begin [] end = refl
closed-listed n begin (x ∷ xs) end = closed-listed n begin xs end

-- a count, and then as many items
counted : {A : Type 0} (read : ℕ → Reading A) (xs : List A) (s t : List ℕ) (at end : ℕ) → length xs ≤ 65536 → drop at s ≡ vlq_bytes (length xs) ++ t
    → listing read (length xs) (at + length (vlq_bytes (length xs))) ≡ listed xs end
    → items_from read (vlq_at 32 s at) ≡ Ok (section (length xs) (at + length (vlq_bytes (length xs))) end)
unfolding items_from count_in
counted read xs s t at end h e l =
    rw (written-read-at 32 (length xs) at s t (omega arith) (omega arith) e, lt-ltb (length xs) (2 ^ 31) (omega arith), l)
    (closed-listed (length xs) (at + length (vlq_bytes (length xs))) xs end)

-- one rule, and rules one after another
rule-read : (r at : ℕ) (s t : List ℕ) → r < 65536 → drop at s ≡ vlq_bytes r ++ t → read_rule s at ≡ got r (at + length (vlq_bytes r))
unfolding read_rule rule_at placed_rule rule_reading
rule-read r at s t h e = rw (written-read-at 16 r at s t (omega arith) h e)

rules-listed : (rules : List ℕ) (at : ℕ) (s t : List ℕ) → Each (λ r. r < 65536) rules → drop at s ≡ rules_bytes rules ++ t
    → listing (read_rule s) (length rules) at ≡ listed rules (at + length (rules_bytes rules))
unfolding listing after rules_bytes
rules-listed [] at s t h e = ap done (sym (add-zero at))
rules-listed (r ∷ rules) at s t h e =
    let e' : drop at s ≡ vlq_bytes r ++ (rules_bytes rules ++ t) = e ∙ append_assoc (vlq_bytes r) (rules_bytes rules) t in
    let ih = rules-listed rules (at + length (vlq_bytes r)) s t h.1 (drop_past at s (vlq_bytes r) (rules_bytes rules ++ t) e') in
    let l : at + length (vlq_bytes r) + length (rules_bytes rules) ≡ at + length (vlq_bytes r ++ rules_bytes rules) = omega (arith, length-append (vlq_bytes r) (rules_bytes rules)) in
    rw (rule-read r at s (rules_bytes rules ++ t) h.0 e', ← l) (ap (item r) ih)

-- a rule id from 1,000 to 32,767, and at most 65,535 raw bytes
abbrev pub Writable : Status → Type 0
Writable x = (low_rule x.rule ≡ false) × (lt_z (pos 32767) x.rule ≡ false) × (length x.raw ≤ 65535)

rule_fits : (z : ℤ) → low_rule z ≡ false → lt_z (pos 32767) z ≡ false → SFits w16 z
unfolding low_rule
rule_fits (pos n) e f = record { sfits = omega (arith, ltb-false 32767 n f) }
rule_fits (negsuc n) e f = absurd (let z : ◌≡◌ {A = ℕ} 0 1 = cc in omega arith)

-- a status where the offset and the size were read
status-at : (rule : ℤ) (code m : ℕ) (raw s t : List ℕ) → drop m s ≡ code ∷ (raw ++ t)
    → status_reading s (placed_status s rule (Some (record { value = length raw; next = m }))) ≡ got (record { rule = rule; code = code; raw = raw }) (m + 1 + length raw)
unfolding placed_status status_reading
status-at rule code m raw s t e =
    let h : m + 1 + length raw ≤ length s = omega (arith, length-drop m s, ap length e, length-append raw t) in
    let c : get_or s m 0 ≡ code = ap (λ (k : ℕ). get_or s k 0) (sym (add-zero m)) ∙ sym (get_or-drop m s 0 0) ∙ ap (λ (l : List ℕ). get_or l 0 0) e in
    let d : drop (m + 1) s ≡ raw ++ t = drop_past m s (code ∷ []) (raw ++ t) e in
    let n : m + 1 + length raw - (m + 1) ≡ length raw = omega arith in
    rw (le-ltb (length s) (m + 1 + length raw) h, c, n, d, take-append_seam raw t)

status-read : (x : Status) (at : ℕ) (s t : List ℕ) → Writable x → drop at s ≡ status_bytes x ++ t → read_status s at ≡ got x (at + length (status_bytes x))
unfolding read_status status_at offset_then status_bytes
status-read x at s t h e =
    let a = vlq_bytes (offset_of x.rule) in
    let b = vlq_bytes (length x.raw) in
    let c = x.code ∷ x.raw in
    let f = rule_fits x.rule h.0 h.1 in
    let e₁ : drop at s ≡ a ++ (b ++ (c ++ t)) = e ∙ append_assoc (a ++ b) c t ∙ append_assoc a b (c ++ t) in
    let e₂ : drop (at + length a) s ≡ b ++ (c ++ t) = drop_past at s a (b ++ (c ++ t)) e₁ in
    let e₃ : drop (at + length a + length b) s ≡ c ++ t = drop_past (at + length a) s b (c ++ t) e₂ in
    let l : at + length a + length b + 1 + length x.raw ≡ at + length (status_bytes x) = omega (arith, status-length x) in
    rw (
      written-read-at 16 (offset_of x.rule) at s (b ++ (c ++ t)) (omega arith) (offset-fits x.rule f) e₁,
      written-read-at 16 (length x.raw) (at + length a) s (c ++ t) (omega arith) (omega (arith, h.2)) e₂,
      rule-back x.rule f,
      ← l,
    )
    (status-at x.rule x.code (at + length a + length b) x.raw s t e₃)

statuses-listed : (xs : List Status) (at : ℕ) (s t : List ℕ) → Each Writable xs → drop at s ≡ statuses_bytes xs ++ t
    → listing (read_status s) (length xs) at ≡ listed xs (at + length (statuses_bytes xs))
unfolding listing after statuses_bytes
statuses-listed [] at s t h e = ap done (sym (add-zero at))
statuses-listed (x ∷ xs) at s t h e =
    let e' : drop at s ≡ status_bytes x ++ (statuses_bytes xs ++ t) = e ∙ append_assoc (status_bytes x) (statuses_bytes xs) t in
    let ih = statuses-listed xs (at + length (status_bytes x)) s t h.1 (drop_past at s (status_bytes x) (statuses_bytes xs ++ t) e') in
    let l : at + length (status_bytes x) + length (statuses_bytes xs) ≡ at + length (status_bytes x ++ statuses_bytes xs) = omega (arith, length-append (status_bytes x) (statuses_bytes xs)) in
    rw (status-read x at s (statuses_bytes xs ++ t) h.0 e', ← l) (ap (item x) ih)

-- the whole update
module _ (rules : List ℕ) (statuses : List Status) (small : Each (λ r. r < 65536) rules) (few : length rules ≤ 65536) (fit : Each Writable statuses) (few' : length statuses ≤ 65536) where
  abbrev s : List ℕ
  s = encoded rules statuses

  abbrev b₁ : ℕ
  b₁ = 0 + length (vlq_bytes (length rules))

  abbrev e₁ : ℕ
  e₁ = b₁ + length (rules_bytes rules)

  abbrev b₂ : ℕ
  b₂ = e₁ + length (vlq_bytes (length statuses))

  abbrev e₂ : ℕ
  e₂ = b₂ + length (statuses_bytes statuses)

  at-start : s ≡ vlq_bytes (length rules) ++ (rules_bytes rules ++ (vlq_bytes (length statuses) ++ (statuses_bytes statuses ++ [])))
  unfolding encoded
  at-start =
      let a = vlq_bytes (length rules) in
      let b = rules_bytes rules in
      let c = vlq_bytes (length statuses) in
      rw (append-nil (statuses_bytes statuses)) (append_assoc (a ++ b) c (statuses_bytes statuses) ∙ append_assoc a b (c ++ statuses_bytes statuses))

  at-rules : drop b₁ s ≡ rules_bytes rules ++ (vlq_bytes (length statuses) ++ (statuses_bytes statuses ++ []))
  at-rules = drop_past 0 s (vlq_bytes (length rules)) (rules_bytes rules ++ (vlq_bytes (length statuses) ++ (statuses_bytes statuses ++ []))) at-start

  at_count : drop e₁ s ≡ vlq_bytes (length statuses) ++ (statuses_bytes statuses ++ [])
  at_count = drop_past b₁ s (rules_bytes rules) (vlq_bytes (length statuses) ++ (statuses_bytes statuses ++ [])) at-rules

  at-statuses : drop b₂ s ≡ statuses_bytes statuses ++ []
  at-statuses = drop_past e₁ s (vlq_bytes (length statuses)) (statuses_bytes statuses ++ []) at_count

  rules-are : listing (read_rule s) (length rules) b₁ ≡ listed rules e₁
  rules-are = rules-listed rules b₁ s (vlq_bytes (length statuses) ++ (statuses_bytes statuses ++ [])) small at-rules

  statuses-are : listing (read_status s) (length statuses) b₂ ≡ listed statuses e₂
  statuses-are = statuses-listed statuses b₂ s [] fit at-statuses

  not-empty : 0 < length s
  not-empty =
      let i = read-inside 32 0 s _ (sym (written-read-at 32 (length rules) 0 s (rules_bytes rules ++ (vlq_bytes (length statuses) ++ (statuses_bytes statuses ++ []))) (omega arith) (omega arith) at-start)) in
      omega (arith, i.after, i.inside)

  abbrev u : Update
  u = record { rules = section (length rules) b₁ e₁; statuses = section (length statuses) b₂ e₂ }

  read-rules : rules_in s u ≡ rules
  unfolding rules_in section_items
  read-rules = ap items rules-are ∙ items-listed rules e₁

  read-statuses : statuses_in s u ≡ statuses
  unfolding statuses_in section_items
  read-statuses = ap items statuses-are ∙ items-listed statuses e₂

  read-update : length s ≤ 65536 → any mandatory_rule rules ≡ false → update_of s ≡ Ok u
  unfolding update_of with_rules rules_in
  read-update h m =
      rw (
        le-ltb 65536 (length s) h,
        ne_eqb (length s) 0 (λ z. omega (arith, not-empty, z)),
        counted (read_rule s) rules s (rules_bytes rules ++ (vlq_bytes (length statuses) ++ (statuses_bytes statuses ++ []))) 0 e₁ few at-start rules-are,
        ap (any mandatory_rule) read-rules,
        m,
        counted (read_status s) statuses s (statuses_bytes statuses ++ []) e₁ e₂ few' at_count statuses-are,
      )

  pub encoded-again : EncodedAgain rules statuses
  encoded-again h m =
      record {
        update = u;
        parsed = read-update h m;
        same-rules = read-rules;
        same-statuses = read-statuses;
      }

-- what the writer's types and tests say of its rules and statuses
each-small : (xs : List ℕ) → ((i : ℕ) → get_or xs i 0 < 65536) → Each (λ r. r < 65536) xs
each-small [] h = tt
each-small (x ∷ xs) h = (h 0, each-small xs (λ i. h (suc i)))

statuses-fit : (ids : List ℤ) (codes sizes raw : List ℕ) → any low_rule ids ≡ false → any (lt_z (pos 32767)) ids ≡ false → any (ltb 65535) sizes ≡ false
    → Each Writable (status_list ids codes sizes raw)
unfolding status_list any
statuses-fit [] codes sizes raw l h k = tt
statuses-fit (i ∷ ids) [] sizes raw l h k = tt
statuses-fit (i ∷ ids) (c ∷ codes) [] raw l h k = tt
statuses-fit (i ∷ ids) (c ∷ codes) (n ∷ sizes) raw l h k =
    let l' = neither (low_rule i) (any low_rule ids) l in
    let h' = neither (lt_z (pos 32767) i) (any (lt_z (pos 32767)) ids) h in
    let k' = neither (ltb 65535 n) (any (ltb 65535) sizes) k in
    ((l'.0, h'.0, omega (arith, take-most n raw, ltb-false 65535 n k'.0)), statuses-fit ids codes sizes (drop n raw) l'.1 h'.1 k'.1)

pub rules-back : (rules : List ℕ) → ((i : ℕ) → get_or rules i 0 < 65536) → length rules ≤ 65536 → EncodedAgain rules []
rules-back rules small h = encoded-again rules [] (each-small rules small) h tt (omega arith)

pub update-back : (rules : List ℕ) (ids : List ℤ) (codes sizes raw : List ℕ) → ((i : ℕ) → get_or rules i 0 < 65536)
    → {r : Check} → r ≡ check_update rules ids codes sizes raw → (r ≡ passed → any (lt_z (pos 32767)) ids ≡ false)
    → check_update rules ids codes sizes raw ≡ passed → EncodedAgain rules (status_list ids codes sizes raw)
update-back rules ids codes sizes raw small q fit z =
    let g = accepted rules ids codes sizes raw z in
    let a = agreed ids codes sizes raw g.agrees in
    encoded-again rules (status_list ids codes sizes raw) (each-small rules small) g.few-rules
    (statuses-fit ids codes sizes raw g.none-low (fit (q ∙ z)) g.none-large)
    (omega (arith, statuses-count ids codes sizes raw a.0 a.1, g.few-ids))
