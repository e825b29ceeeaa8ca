-- An update in shortest form is what the writer gives.
-- Assumes nothing.
use mathlib.Core.Path.{◌≡◌, refl, ap, sym, ◌∙◌, subst, subst⁻¹}
use mathlib.Core.Bool.{Bool, true, false, cond}
use mathlib.Core.List.{List, [], ◌∷◌, ◌++◌}
use Prim.Native.Nat.{ℕ, zero, suc, ◌+◌, ◌-◌, ◌≤◌, ◌<◌}
use native.Mathlib.Omega.{arith}
use borrow.Author.Tests.{le-ltb, ltb-false, ne_eqb}
use lib.Dec.{ltb, eqb}
use lib.ListN.{length, get_or, length-append}
use lib.Seq.{drop-append_seam, take-append_seam}
use Rattle.codec.specs.Vlq.{vlq_at, vlq_bytes}
use Rattle.codec.specs.Rule.{rule_of, offset_of}
use Rattle.codec.specs.declared.refusal.Refusal.TheVariants.{UpdateUnreadable, MandatoryDisabled, InputLong}
use Rattle.codec.specs.declared.vlq.Number.{Number}
use Rattle.std.specs.Prelude.{Option, Some, None, Result, Ok, Err}
use Rattle.codec.specs.declared.refusal.Refusal.{Refusal}
use Rattle.codec.specs.Check.{and_then}
use Rattle.voting.proofs.Laws.Tests.{then_ok}
use Rattle.codec.proofs.Laws.Rule.{offset-back}
use Rattle.codec.proofs.Laws.VlqTrip.{read-inside, Inside}
use Rattle.voting.specs.Common.{Each}
use Rattle.extension.specs.declared.section.Section.{Section}
use Rattle.extension.specs.declared.update.StatusPlace.{StatusPlace}
use Rattle.extension.specs.declared.update.Update.{Update}
use Rattle.extension.specs.Section.{Reading, got, bad, Listing, done, stop, item, after, listing, items, closed, section, section_items, part, any}
use Rattle.extension.specs.Mandatory.{mandatory_rule}
use Rattle.extension.specs.Update.{Status, placed_rule, rule_at, rule_reading, read_rule, placed_status, offset_then, status_at, status_reading, read_status, count_in, items_from, no_update, with_rules, update_of, rules_in, statuses_in}
use Rattle.extension.specs.Encode.{rules_bytes, status_bytes, statuses_bytes, encoded, status_list, sum, ids_of, codes_of, sizes_of, all_raw, Short, next_of, end_of, ShortRules, ShortStatuses, ShortUpdate, UpdateBack, UpdateAgain}
use Rattle.extension.proofs.Laws.Parts.{part_length, part_join, part-all, part-cons}
use Rattle.extension.proofs.Laws.Encode.{none-refused}

-- First the bytes between positions
part_none : (s : List ℕ) (at : ℕ) → part s at at ≡ []
part_none s at = let e : at - at ≡ 0 = omega arith in rw e

abbrev next-of : {A : Type 0} → Reading A → ℕ
next-of (got a next) = next
next-of (bad e) = 0

abbrev joined : {A : Type 0} → (A → List ℕ) → List A → List ℕ
joined bytes [] = []
joined bytes (x ∷ xs) = bytes x ++ joined bytes xs

-- items whose bytes stand where they were read: what a reader answers at a position, and then at the next
module _ {A : Type 0} (s : List ℕ) (read : ℕ → Reading A) (bytes : A → List ℕ) (Fine : A → Type 0) where
  abbrev Stands : ℕ → Reading A → Type 0
  Stands at (got a next) = (part s at next ≡ bytes a) × (at < next) × (next ≤ length s) × Fine a
  Stands at (bad e) = Unit {0}

  abbrev pub Chain : ℕ → ℕ → Type 0
  Chain zero at = Unit {0}
  Chain (suc n) at = Stands at (read at) × Chain n (next-of (read at))

  module _ (n₀ b₀ end : ℕ) where
    record AllRead (n at : ℕ) (l : Listing A) : Type 0 where
      many : length (items l) ≡ n
      least : at + n ≤ end
      within : end ≤ length s
      bytes-are : part s at end ≡ joined bytes (items l)
      fine : Each Fine (items l)

    all_read : (n at : ℕ) → at ≤ length s → Chain n at → closed n₀ b₀ (listing read n at) ≡ Ok (section n₀ b₀ end) → AllRead n at (listing read n at)
    unfolding listing after closed items
    all_read zero at h c e =
        let p : section n₀ b₀ at ≡ section n₀ b₀ end = cc in
        let q : at ≡ end = ap (λ (x : Section). x.end) p in
        record { many = refl; least = omega arith; within = omega arith; bytes-are = ap (part s at) (sym q) ∙ part_none s at; fine = tt }
    all_read (suc n) at h c e = go (read at) c e (λ k i d f. all_read n k i d f)
      where
        go : (g : Reading A) → Stands at g × Chain n (next-of g) → closed n₀ b₀ (after g (listing read n)) ≡ Ok (section n₀ b₀ end)
            → ((k : ℕ) → k ≤ length s → Chain n k → closed n₀ b₀ (listing read n k) ≡ Ok (section n₀ b₀ end) → AllRead n k (listing read n k)) → AllRead (suc n) at (after g (listing read n))
        go (got a next) c e more =
            let r = more next c.0.2 c.1 e in
            record {
              many = ap suc r.many;
              least = omega (arith, c.0.1, r.least);
              within = r.within;
              bytes-are = sym (part_join s at next end (omega (arith, c.0.1)) (omega (arith, r.least))) ∙ rw (c.0.0, r.bytes-are);
              fine = (c.0.3, r.fine);
            }
        go (bad m) c e more = cc

-- a section that was read is the one that was asked for
closed-is : {A : Type 0} (n b : ℕ) (l : Listing A) (x : Section) → closed n b l ≡ Ok x → x ≡ section n b x.end
unfolding closed
closed-is n b (done end) x e = let q : section n b end ≡ x = cc in subst (λ (y : Section). y ≡ section n b y.end) q refl
closed-is n b (stop m) x e = cc
closed-is n b (item a l) x e = closed-is n b l x e

module _ {A : Type 0} (read : ℕ → Reading A) where
  record ItemsRead (x : Option Number) (y : Section) : Type 0 where
    number : Number
    value-is : x ≡ Some number
    section-is : y ≡ section (count_in number.value) number.next y.end
    closed_is : closed (count_in number.value) number.next (listing read (count_in number.value) number.next) ≡ Ok (section (count_in number.value) number.next y.end)

  items-read : (x : Option Number) (y : Section) → items_from read x ≡ Ok y → ItemsRead x y
  unfolding items_from
  items-read (Some m) y e =
      let q = closed-is (count_in m.value) m.next (listing read (count_in m.value) m.next) y e in
      record { number = m; value-is = refl; section-is = q; closed_is = e ∙ ap Ok q }
  items-read None y e = cc

-- the parts of an update that was read
module _ (s : List ℕ) (rules : Section) where
  rules-then : (u : Update) → with_rules s rules ≡ Ok u
      → (statuses : Section) × (items_from (read_status s) (vlq_at 32 s rules.end) ≡ Ok statuses) × (u ≡ record { rules = rules; statuses = statuses })
  unfolding with_rules
  rules-then u = go (any mandatory_rule (section_items (read_rule s) rules)) (items_from (read_status s) (vlq_at 32 s rules.end))
    where
      go : (b : Bool) (x : Result Section Refusal) → cond b (Err MandatoryDisabled) (and_then x (λ y. Ok (record { rules = rules; statuses = y }))) ≡ Ok u
          → (statuses : Section) × (x ≡ Ok statuses) × (u ≡ record { rules = rules; statuses = statuses })
      go true x e = cc
      go false (Ok y) e = (y, refl, (let q : record { rules = rules; statuses = y } ≡ u = cc in sym q))
      go false (Err m) e = cc

-- rules in shortest form stand where they were read
abbrev Any : {A : Type 0} → A → Type 0
Any x = Unit {0}

rules-chain : (s : List ℕ) (n at : ℕ) → ShortRules n s at → Chain s (read_rule s) vlq_bytes Any n at
unfolding read_rule rule_at placed_rule rule_reading
rules-chain s zero at h = tt
rules-chain s (suc n) at h = go (vlq_at 16 s at) refl h (λ k g. rules-chain s n k g)
  where
    go : (x : Option Number) → x ≡ vlq_at 16 s at → Short s at x × ShortRules n s (next_of x) → ((k : ℕ) → ShortRules n s k → Chain s (read_rule s) vlq_bytes Any n k)
        → Stands s (read_rule s) vlq_bytes Any at (rule_reading (placed_rule x)) × Chain s (read_rule s) vlq_bytes Any n (next-of (rule_reading (placed_rule x)))
    go (Some m) q h more = let i = read-inside 16 at s m q in ((h.0, i.after, i.inside, tt), more m.next h.1)
    go None q h more = (tt, more 0 h.1)

rules-joined : (rules : List ℕ) → joined vlq_bytes rules ≡ rules_bytes rules
unfolding rules_bytes
rules-joined [] = refl
rules-joined (r ∷ rules) = ap (λ (t : List ℕ). vlq_bytes r ++ t) (rules-joined rules)

-- statuses in shortest form too
abbrev Fine : Status → Type 0
Fine x = length x.raw ≤ 65535

status-stands : (s : List ℕ) (at : ℕ) (m k : Number) → Inside 16 (length s) at m → Inside 16 (length s) m.next k
    → part s at m.next ≡ vlq_bytes m.value → part s m.next k.next ≡ vlq_bytes k.value → k.next + 1 + k.value ≤ length s
    → part s at (k.next + 1 + k.value) ≡ status_bytes (record { rule = rule_of m.value; code = get_or s k.next 0; raw = part s (k.next + 1) (k.next + 1 + k.value) })
unfolding status_bytes
status-stands s at m k i j p q h =
    let end = k.next + 1 + k.value in
    let l : length (part s (k.next + 1) end) ≡ k.value = part_length s (k.next + 1) end h ∙ omega arith in
    let o : offset_of (rule_of m.value) ≡ m.value = offset-back m.value i.value-fits in
    let c = part-cons s k.next k.value (omega arith) in
    rw (o, l, ← p, ← q, ← c, part_join s at m.next k.next (omega (arith, i.after)) (omega (arith, j.after)))
    (sym (part_join s at k.next end (omega (arith, i.after, j.after)) (omega arith)))

statuses-chain : (s : List ℕ) (n at : ℕ) → ShortStatuses n s at → Chain s (read_status s) status_bytes Fine n at
unfolding read_status status_at offset_then placed_status status_reading
statuses-chain s zero at h = tt
statuses-chain s (suc n) at h = go (vlq_at 16 s at) refl h.0 h.1 h.2 (λ k g. statuses-chain s n k g)
  where
    Next : Result StatusPlace Refusal → Type 0
    Next x = Stands s (read_status s) status_bytes Fine at (status_reading s x) × Chain s (read_status s) status_bytes Fine n (next-of (status_reading s x))

    cut : (m k : Number) (b : Bool) → ltb (length s) (k.next + 1 + k.value) ≡ b → Inside 16 (length s) at m → Inside 16 (length s) m.next k
        → part s at m.next ≡ vlq_bytes m.value → part s m.next k.next ≡ vlq_bytes k.value
        → ShortStatuses n s (end_of (cond b (Err UpdateUnreadable)
        (Ok (record { rule = record { 0 = rule_of m.value }; code = get_or s k.next 0; start = k.next + 1; end = k.next + 1 + k.value }))))
        → ((a : ℕ) → ShortStatuses n s a → Chain s (read_status s) status_bytes Fine n a)
        → Next (cond b (Err UpdateUnreadable) (Ok (record { rule = record { 0 = rule_of m.value }; code = get_or s k.next 0; start = k.next + 1; end = k.next + 1 + k.value })))
    cut m k true t i j p q h more = (tt, more 0 h)
    cut m k false t i j p q h more =
        let inside : k.next + 1 + k.value ≤ length s = ltb-false (length s) (k.next + 1 + k.value) t in (
          (
            status-stands s at m k i j p q inside,
            omega (arith, i.after, j.after),
            inside,
            omega (arith, part_length s (k.next + 1) (k.next + 1 + k.value) inside, j.value-fits),
          ),
          more (k.next + 1 + k.value) h,
        )

    size : (m : Number) (y : Option Number) → y ≡ vlq_at 16 s m.next → Inside 16 (length s) at m → part s at m.next ≡ vlq_bytes m.value → Short s m.next y
        → ShortStatuses n s (end_of (placed_status s (rule_of m.value) y)) → ((a : ℕ) → ShortStatuses n s a → Chain s (read_status s) status_bytes Fine n a)
        → Next (placed_status s (rule_of m.value) y)
    size m (Some k) e i p q h more = cut m k (ltb (length s) (k.next + 1 + k.value)) refl i (read-inside 16 m.next s k e) p q h more
    size m None e i p q h more = (tt, more 0 h)

    go : (x : Option Number) → x ≡ vlq_at 16 s at → Short s at x → Short s (next_of x) (vlq_at 16 s (next_of x)) → ShortStatuses n s (end_of (offset_then s x))
        → ((a : ℕ) → ShortStatuses n s a → Chain s (read_status s) status_bytes Fine n a) → Next (offset_then s x)
    go (Some m) e p q h more = size m (vlq_at 16 s m.next) refl (read-inside 16 at s m e) p q h more
    go None e p q h more = (tt, more 0 h)

statuses-joined : (xs : List Status) → joined status_bytes xs ≡ statuses_bytes xs
unfolding statuses_bytes
statuses-joined [] = refl
statuses-joined (x ∷ xs) = ap (λ (t : List ℕ). status_bytes x ++ t) (statuses-joined xs)

-- statuses taken apart and put together again
taken-apart : (xs : List Status) → (length (ids_of xs) ≡ length xs) × (length (codes_of xs) ≡ length xs) × (length (sizes_of xs) ≡ length xs) × (sum (sizes_of xs) ≡ length (all_raw xs))
unfolding ids_of codes_of sizes_of all_raw sum
taken-apart [] = (refl, refl, refl, refl)
taken-apart (x ∷ xs) =
    let t = taken-apart xs in
    (ap suc t.0, ap suc t.1, ap suc t.2, ap (λ (n : ℕ). length x.raw + n) t.3 ∙ sym (length-append x.raw (all_raw xs)))

put-together : (xs : List Status) → status_list (ids_of xs) (codes_of xs) (sizes_of xs) (all_raw xs) ≡ xs
unfolding ids_of codes_of sizes_of all_raw status_list
put-together [] = refl
put-together (x ∷ xs) = rw (take-append_seam x.raw (all_raw xs), drop-append_seam x.raw (all_raw xs)) (ap (λ (ys : List Status). x ∷ ys) (put-together xs))

none-large : (xs : List Status) → Each Fine xs → any (ltb 65535) (sizes_of xs) ≡ false
unfolding any sizes_of
none-large [] h = refl
none-large (x ∷ xs) h = rw (le-ltb 65535 (length x.raw) h.0) (none-large xs h.1)

-- the whole update, taken apart
module _ (s : List ℕ) (m₁ m₂ : Number) (end₁ end₂ : ℕ) where
  abbrev n₁ : ℕ
  n₁ = count_in m₁.value

  abbrev n₂ : ℕ
  n₂ = count_in m₂.value

  abbrev apart : Update
  apart = record { rules = section n₁ m₁.next end₁; statuses = section n₂ m₂.next end₂ }

  module _ (few : length s ≤ 65536) (q₁ : vlq_at 32 s 0 ≡ Some m₁) (q₂ : vlq_at 32 s end₁ ≡ Some m₂)
      (c₁ : closed n₁ m₁.next (listing (read_rule s) n₁ m₁.next) ≡ Ok (section n₁ m₁.next end₁))
      (c₂ : closed n₂ m₂.next (listing (read_status s) n₂ m₂.next) ≡ Ok (section n₂ m₂.next end₂))
      (h : ShortUpdate s apart) where
    i₁ : Inside 32 (length s) 0 m₁
    i₁ = read-inside 32 0 s m₁ (sym q₁)

    i₂ : Inside 32 (length s) end₁ m₂
    i₂ = read-inside 32 end₁ s m₂ (sym q₂)

    r₁ : AllRead s (read_rule s) vlq_bytes Any n₁ m₁.next end₁ n₁ m₁.next (listing (read_rule s) n₁ m₁.next)
    r₁ = all_read s (read_rule s) vlq_bytes Any n₁ m₁.next end₁ n₁ m₁.next i₁.inside (rules-chain s n₁ m₁.next h.rules-short) c₁

    r₂ : AllRead s (read_status s) status_bytes Fine n₂ m₂.next end₂ n₂ m₂.next (listing (read_status s) n₂ m₂.next)
    r₂ = all_read s (read_status s) status_bytes Fine n₂ m₂.next end₂ n₂ m₂.next i₂.inside (statuses-chain s n₂ m₂.next h.statuses-short) c₂

    many₁ : length (rules_in s apart) ≡ n₁
    unfolding rules_in section_items
    many₁ = r₁.many

    many₂ : length (statuses_in s apart) ≡ n₂
    unfolding statuses_in section_items
    many₂ = r₂.many

    bytes₁ : part s m₁.next end₁ ≡ rules_bytes (rules_in s apart)
    unfolding rules_in section_items
    bytes₁ =
        let l = items (listing (read_rule s) n₁ m₁.next) in
        r₁.bytes-are ∙ rules-joined l

    bytes₂ : part s m₂.next end₂ ≡ statuses_bytes (statuses_in s apart)
    unfolding statuses_in section_items
    bytes₂ =
        let l = items (listing (read_status s) n₂ m₂.next) in
        r₂.bytes-are ∙ statuses-joined l

    fine₂ : Each Fine (statuses_in s apart)
    unfolding statuses_in section_items
    fine₂ = r₂.fine

    same : encoded (rules_in s apart) (statuses_in s apart) ≡ s
    unfolding encoded
    same =
        let a : m₁.next ≤ end₁ = omega (arith, r₁.least) in
        let b : end₁ ≤ m₂.next = omega (arith, i₂.after) in
        let c : m₂.next ≤ end₂ = omega (arith, r₂.least) in
        rw (
          many₁,
          many₂,
          ← bytes₁,
          ← bytes₂,
          ← h.rules-count,
          ← h.statuses-count,
          part_join s 0 m₁.next end₁ (omega arith) a,
          part_join s 0 end₁ m₂.next (omega arith) b,
          part_join s 0 m₂.next end₂ (omega arith) c,
        )
        (part-all s end₂ h.no-rest)

    back-again : UpdateBack s (rules_in s apart) (statuses_in s apart)
    back-again =
        let rules = rules_in s apart in
        let xs = statuses_in s apart in
        let t = taken-apart xs in
        let k₁ : length rules ≤ 65536 = omega (arith, many₁, r₁.least, r₁.within) in
        let k₂ : length xs ≤ 65536 = omega (arith, many₂, r₂.least, r₂.within) in
        record {
          accepted =
              sym (none-refused rules (ids_of xs) (codes_of xs) (sizes_of xs) (all_raw xs) k₁ (omega (arith, t)) (omega (arith, t)) (omega (arith, t))
              refl (none-large xs fine₂) refl h.none-low (t.1 ∙ sym t.0) (t.2 ∙ sym t.0) refl t.3);
          together = put-together xs;
          same_bytes = same;
        }

-- an update that was read from bytes which are not too many, and not none
not-long : (s : List ℕ) (u : Update) → update_of s ≡ Ok u → length s ≤ 65536
unfolding update_of
not-long s u = go (ltb 65536 (length s)) (cond (eqb (length s) 0) (Ok no_update) (and_then (items_from (read_rule s) (vlq_at 32 s 0)) (with_rules s))) refl
  where
    go : (b : Bool) (rest : Result Update Refusal) → ltb 65536 (length s) ≡ b → cond b (Err InputLong) rest ≡ Ok u → length s ≤ 65536
    go true rest t e = cc
    go false rest t e = ltb-false 65536 (length s) t

update-is : (s : List ℕ) → length s ≤ 65536 → 0 < length s → update_of s ≡ and_then (items_from (read_rule s) (vlq_at 32 s 0)) (with_rules s)
unfolding update_of
update-is s h k = rw (le-ltb 65536 (length s) h, ne_eqb (length s) 0 (λ z. omega arith))

update-back : (s : List ℕ) (u : Update) (x y : Section) → length s ≤ 65536 → ItemsRead (read_rule s) (vlq_at 32 s 0) x → ItemsRead (read_status s) (vlq_at 32 s x.end) y
    → u ≡ record { rules = x; statuses = y } → ShortUpdate s u → UpdateBack s (rules_in s u) (statuses_in s u)
update-back s u x y few p q e h =
    let at : record { rules = x; statuses = y } ≡ apart s p.number q.number x.end y.end =
    ap (λ (r : Section). record { rules = r; statuses = y }) p.section-is
    ∙ ap (λ (r : Section). record { rules = section (count_in p.number.value) p.number.next x.end; statuses = r }) q.section-is in
    let is : u ≡ apart s p.number q.number x.end y.end = e ∙ at in
    subst⁻¹ (λ (v : Update). UpdateBack s (rules_in s v) (statuses_in s v)) is
    (back-again s p.number q.number x.end y.end few p.value-is q.value-is p.closed_is q.closed_is (subst (ShortUpdate s) is h))

pub update-again : (s : List ℕ) → UpdateAgain s (update_of s)
update-again s u z h =
    let few = not-long s u z in
    let x = then_ok (items_from (read_rule s) (vlq_at 32 s 0)) (with_rules s) (sym (update-is s few h.nonempty) ∙ z) in
    let y = rules-then s x.0 u x.2 in
    update-back s u x.0 y.0 few (items-read (read_rule s) (vlq_at 32 s 0) x.0 x.1) (items-read (read_status s) (vlq_at 32 s x.0.end) y.0 y.1) y.2 h

-- the same of what an update's reader answered
pub parsed-again : (s : List ℕ) (x : Result Update Refusal) → x ≡ update_of s → UpdateAgain s x
parsed-again s x e = subst⁻¹ (UpdateAgain s) e (update-again s)
