-- Settings updates written, item by item: the tests before, the sizes, and the stores.
-- Assumes nothing.
use Rattle.std.proofs.Common.{Err, ◌≡◌, ◌⊎◌, inl, inr, ℕ, suc, ◌+◌, ◌-◌, ◌^◌, ◌<◌, ◌≤◌, Bool, true, false, cond, ◌&&◌, ◌||◌, eqb, ltb, List, [], ◌∷◌, ◌++◌, length, get_or, take, drop, set, ℤ, pos, negsuc, sym, refl, ap, ◌∙◌, append-nil, zero-add, add-one, arith, length-append, length-drop, drop_of_length-le, length-take-le, drop-cons, drop-drop, w16, SFits, ltb-false, le-ltb, lt-ltb, eq-eqb, ne_eqb, eqb-true}
use lib.Signed.{lt_z}
use lib.Seq.{sets}
use Rattle.codec.specs.Output.{refused, writes, writing}
use Rattle.codec.specs.declared.refusal.Refusal.{Refusal}
use Rattle.codec.specs.Check.{passed}
use Rattle.codec.specs.declared.refusal.Refusal.TheVariants.{UpdateUnreadable, InputLong, StatusRuleLow}
use Rattle.codec.specs.Rule.{offset_of}
use Rattle.codec.specs.Vlq.{vlq_bytes, shortest_of}
use Rattle.codec.proofs.Laws.Output.{sets-append, writing-stop, writing-go}
use Rattle.codec.proofs.Laws.VlqTrip.{at-most-ten}
use Rattle.voting.proofs.Laws.Tests.{both, neither}
use Rattle.extension.specs.Section.{any}
use Rattle.extension.specs.Update.{Status}
use Rattle.extension.specs.Encode.{rules_bytes, status_bytes, statuses_bytes, encoded, status_list, sum, agree, low_rule, too_large, check_update}
use Rattle.extension.proofs.Laws.Encode.{large_is}
use Rattle.writers.specs.Encode.{statuses_size, encode_update, encode_rules}

-- a number of 16 bits is not above 32,767
pub not-high : (id : ℤ) → SFits w16 id → lt_z (pos 32767) id ≡ false
not-high (pos n) f = le-ltb 32767 n (omega (arith, f.sfits))
not-high (negsuc n) f = refl

-- the rules, from a position on
module _ (rules : List ℕ) (i : ℕ) where
  pub rules-end : length rules ≤ i → rules_bytes (drop i rules) ≡ []
  unfolding rules_bytes
  rules-end h = rw (drop_of_length-le rules h)

  module _ (h : i < length rules) where
    rules-here : rules_bytes (drop i rules) ≡ vlq_bytes (get_or rules i 0) ++ rules_bytes (drop (i + 1) rules)
    unfolding rules_bytes
    rules-here = rw (drop-cons rules i 0 h, add-one)

    pub rules-length : length (rules_bytes (drop i rules)) ≡ length (vlq_bytes (get_or rules i 0)) + length (rules_bytes (drop (i + 1) rules))
    rules-length = ap length rules-here ∙ length-append (vlq_bytes (get_or rules i 0)) (rules_bytes (drop (i + 1) rules))

    pub rules-put : (cells : List ℕ) (k : ℕ)
        → sets cells k (rules_bytes (drop i rules)) ≡ sets (sets cells k (vlq_bytes (get_or rules i 0))) (k + length (vlq_bytes (get_or rules i 0))) (rules_bytes (drop (i + 1) rules))
    rules-put cells k = rw rules-here (sets-append (vlq_bytes (get_or rules i 0)) (rules_bytes (drop (i + 1) rules)) cells k)

-- the size of the statuses: of one and the others, and where there is none
pub statuses-size-next : {i j : ℤ} (n : ℕ) (ids : List ℤ) (sizes : List ℕ) → j ≡ i
    → statuses_size (i ∷ ids) (n ∷ sizes) ≡ length (vlq_bytes (offset_of j)) + length (vlq_bytes n) + 1 + n + statuses_size ids sizes
unfolding statuses_size
statuses-size-next n ids sizes e = rw e

pub statuses-size-none : (ids : List ℤ) (sizes : List ℕ) → (ids ≡ []) ⊎ (sizes ≡ []) → statuses_size ids sizes ≡ 0
unfolding statuses_size
statuses-size-none [] sizes h = refl
statuses-size-none (i ∷ ids) [] h = refl
statuses-size-none (i ∷ ids) (n ∷ sizes) (inl e) = absurd (cc)
statuses-size-none (i ∷ ids) (n ∷ sizes) (inr e) = absurd (cc)

-- three runs of stores, one after another
sets-three : (a b c cells : List ℕ) (at : ℕ) → sets (sets (sets cells at a) (at + length a) b) (at + length a + length b) c ≡ sets cells at (a ++ b ++ c)
sets-three a b c cells at =
    let e : at + length (a ++ b) ≡ at + length a + length b = omega (arith, length-append a b) in
    sym (sets-append (a ++ b) c cells at ∙ rw (e, sets-append a b cells at))

-- the stores of one status, in order: its offset, its size, its code, its bytes
pub status-put : (cells : List ℕ) (at : ℕ) (x : Status) {o k n : ℕ} {a b c d : List ℕ}
    → o ≡ offset_of x.rule → k ≡ length (vlq_bytes o) → n ≡ length (vlq_bytes (length x.raw))
    → a ≡ sets cells at (vlq_bytes o) → b ≡ sets a (at + k) (vlq_bytes (length x.raw)) → c ≡ set b (at + k + n) x.code → d ≡ sets c (at + k + n + 1) x.raw
    → d ≡ sets cells at (status_bytes x)
unfolding status_bytes
status-put cells at x po pk pn pa pb pc pd =
    rw (pd, pc, pb, pa, pk, pn, po, add-one)
    (sets-three (vlq_bytes (offset_of x.rule)) (vlq_bytes (length x.raw)) (x.code ∷ x.raw) cells at)

pub status-length : (x : Status) → length (status_bytes x) ≡ length (vlq_bytes (offset_of x.rule)) + length (vlq_bytes (length x.raw)) + 1 + length x.raw
unfolding status_bytes
status-length x =
    let a = length-append (vlq_bytes (offset_of x.rule) ++ vlq_bytes (length x.raw)) (x.code ∷ x.raw) in
    let b = length-append (vlq_bytes (offset_of x.rule)) (vlq_bytes (length x.raw)) in
    a ∙ omega arith

-- the size of one status, from its parts
pub status-size : (id : ℤ) (n : ℕ) → n < 2 ^ 32 → {o f s : ℕ} → o ≡ offset_of id → f ≡ length (vlq_bytes o) → s ≡ length (vlq_bytes n)
    → (f + s + 1 + n ≡ length (vlq_bytes (offset_of id)) + length (vlq_bytes n) + 1 + n) × (f + s + 1 + n ≤ 4294967317)
status-size id n h po pf ps = rw (pf, po, ps) (refl, omega (arith, at-most-ten (offset_of id), at-most-ten n))

-- what agrees: as many codes and sizes as ids, and as many bytes as the sizes say
pub agreed : (ids : List ℤ) (codes sizes raw : List ℕ) → agree ids codes sizes raw ≡ true
    → (length codes ≡ length ids) × (length sizes ≡ length ids) × (sum sizes ≡ length raw)
unfolding agree
agreed ids codes sizes raw e =
    let p = both (eqb (length codes) (length ids) && eqb (length sizes) (length ids)) (eqb (sum sizes) (length raw)) e in
    let q = both (eqb (length codes) (length ids)) (eqb (length sizes) (length ids)) p.0 in
    (eqb-true (length codes) (length ids) q.0, eqb-true (length sizes) (length ids) q.1, eqb-true (sum sizes) (length raw) p.1)

-- the statuses that are left, from a position of the raw bytes on: none, or one that is stored, and then the others
pub statuses-end : (ids : List ℤ) (codes sizes raw : List ℕ) → length ids ≡ 0 → statuses_bytes (status_list ids codes sizes raw) ≡ []
unfolding status_list statuses_bytes
statuses-end [] codes sizes raw h = refl
statuses-end (i ∷ ids) codes sizes raw h = absurd (omega arith)

pub statuses-put : (i : ℤ) (c n : ℕ) (ids : List ℤ) (codes sizes raw : List ℕ) (p : ℕ) → p + n ≤ length raw → {id : ℤ} → id ≡ i → {size : ℕ}
    → size ≡ length (vlq_bytes (offset_of id)) + length (vlq_bytes n) + 1 + n → (cells : List ℕ) (k : ℕ)
    → sets cells k (statuses_bytes (status_list (i ∷ ids) (c ∷ codes) (n ∷ sizes) (drop p raw)))
    ≡ sets (sets cells k (status_bytes (record { rule = id; code = c; raw = take (p + n - p) (drop p raw) }))) (k + size) (statuses_bytes (status_list ids codes sizes (drop (p + n) raw)))
unfolding status_list statuses_bytes
statuses-put i c n ids codes sizes raw p h {id} e {size} g cells k =
    let x : Status = record { rule = id; code = c; raw = take n (drop p raw) } in
    let f : p + n - p ≡ n = omega arith in
    let m : length (take n (drop p raw)) ≡ n = length-take-le n (drop p raw) (omega (arith, length-drop p raw)) in
    let l : length (status_bytes x) ≡ size = status-length x ∙ rw m (sym g) in
    rw (drop-drop n p raw, ← e, f, ← l) (sets-append (status_bytes x) (statuses_bytes (status_list ids codes sizes (drop (p + n) raw))) cells k)

-- as many statuses as ids, and as many bytes as was counted
pub statuses-count : (ids : List ℤ) (codes sizes raw : List ℕ) → length codes ≡ length ids → length sizes ≡ length ids → length (status_list ids codes sizes raw) ≡ length ids
unfolding status_list
statuses-count [] codes sizes raw e f = refl
statuses-count (i ∷ ids) [] sizes raw e f = absurd (omega arith)
statuses-count (i ∷ ids) (c ∷ codes) [] raw e f = absurd (omega arith)
statuses-count (i ∷ ids) (c ∷ codes) (n ∷ sizes) raw e f = ap suc (statuses-count ids codes sizes (drop n raw) (omega arith) (omega arith))

statuses-length : (ids : List ℤ) (codes sizes raw : List ℕ) → length codes ≡ length ids → length sizes ≡ length ids → sum sizes ≡ length raw
    → length (statuses_bytes (status_list ids codes sizes raw)) ≡ statuses_size ids sizes
unfolding status_list statuses_bytes statuses_size sum
statuses-length [] codes sizes raw e f g = refl
statuses-length (i ∷ ids) [] sizes raw e f g = absurd (omega arith)
statuses-length (i ∷ ids) (c ∷ codes) [] raw e f g = absurd (omega arith)
statuses-length (i ∷ ids) (c ∷ codes) (n ∷ sizes) raw e f g =
    let x : Status = record { rule = i; code = c; raw = take n raw } in
    let l : length (take n raw) ≡ n = length-take-le n raw (omega arith) in
    let ih = statuses-length ids codes sizes (drop n raw) (omega arith) (omega arith) (omega (arith, length-drop n raw)) in
    length-append (status_bytes x) (statuses_bytes (status_list ids codes sizes (drop n raw))) ∙ rw (status-length x, l, ih)

-- the refusal, test by test
module _ (rules : List ℕ) (ids : List ℤ) (codes sizes raw : List ℕ) where
  pub many-rules : 65536 < length rules → Err InputLong ≡ check_update rules ids codes sizes raw
  unfolding check_update too_large
  many-rules h = rw (lt-ltb 65536 (length rules) h)

  module _ (h₁ : length rules ≤ 65536) where
    pub many-ids : 65536 < length ids → Err InputLong ≡ check_update rules ids codes sizes raw
    unfolding check_update too_large
    many-ids h = rw (le-ltb 65536 (length rules) h₁, lt-ltb 65536 (length ids) h)

    module _ (h₂ : length ids ≤ 65536) where
      pub many-codes : 65536 < length codes → Err InputLong ≡ check_update rules ids codes sizes raw
      unfolding check_update too_large
      many-codes h = rw (le-ltb 65536 (length rules) h₁, le-ltb 65536 (length ids) h₂, lt-ltb 65536 (length codes) h)

      module _ (h₃ : length codes ≤ 65536) where
        pub many-sizes : 65536 < length sizes → Err InputLong ≡ check_update rules ids codes sizes raw
        unfolding check_update too_large
        many-sizes h = rw (le-ltb 65536 (length rules) h₁, le-ltb 65536 (length ids) h₂, le-ltb 65536 (length codes) h₃, lt-ltb 65536 (length sizes) h)

        module _ (h₄ : length sizes ≤ 65536) where
          module _ {a : Bool} (q : a ≡ any (ltb 65535) sizes) where
            pub large-size : a ≡ true → Err InputLong ≡ check_update rules ids codes sizes raw
            unfolding check_update
            large-size e = rw (large_is rules ids codes sizes h₁ h₂ h₃ h₄, ← q, e)

            module _ (h₅ : a ≡ false) {b : Bool} (r : b ≡ any low_rule ids) where
              pub low-rule : b ≡ true → Err StatusRuleLow ≡ check_update rules ids codes sizes raw
              unfolding check_update
              low-rule e = rw (large_is rules ids codes sizes h₁ h₂ h₃ h₄, ← q, h₅, ← r, e)

              module _ (h₆ : b ≡ false) where
                pub codes-differ : (length codes ≡ length ids → ⊥) → Err UpdateUnreadable ≡ check_update rules ids codes sizes raw
                unfolding check_update agree
                codes-differ h = rw (large_is rules ids codes sizes h₁ h₂ h₃ h₄, ← q, h₅, ← r, h₆, ne_eqb (length codes) (length ids) h)

                module _ (h₇ : length codes ≡ length ids) where
                  pub sizes-differ : (length sizes ≡ length ids → ⊥) → Err UpdateUnreadable ≡ check_update rules ids codes sizes raw
                  unfolding check_update agree
                  sizes-differ h = rw (large_is rules ids codes sizes h₁ h₂ h₃ h₄, ← q, h₅, ← r, h₆, eq-eqb (length codes) (length ids) h₇, ne_eqb (length sizes) (length ids) h)

                  module _ (h₈ : length sizes ≡ length ids) {n : ℕ} (s : n ≡ sum sizes) where
                    pub raw-differs : (n ≡ length raw → ⊥) → Err UpdateUnreadable ≡ check_update rules ids codes sizes raw
                    unfolding check_update agree
                    raw-differs h = rw (large_is rules ids codes sizes h₁ h₂ h₃ h₄, ← q, h₅, ← r, h₆, eq-eqb (length codes) (length ids) h₇, eq-eqb (length sizes) (length ids) h₈, ← s, ne_eqb n (length raw) h)

-- what no refusal says
pub record Accepted (rules : List ℕ) (ids : List ℤ) (codes sizes raw : List ℕ) : Type 0 where
  pub few-rules : length rules ≤ 65536
  pub few-ids : length ids ≤ 65536
  pub none-large : any (ltb 65535) sizes ≡ false
  pub none-low : any low_rule ids ≡ false
  pub agrees : agree ids codes sizes raw ≡ true

module _ (rules : List ℕ) (ids : List ℤ) (codes sizes raw : List ℕ) where
  pub accepted : check_update rules ids codes sizes raw ≡ passed → Accepted rules ids codes sizes raw
  unfolding check_update too_large
  accepted = go (too_large rules ids codes sizes) (any low_rule ids) (agree ids codes sizes raw) refl refl refl
    where
      go : (a b c : Bool) → too_large rules ids codes sizes ≡ a → any low_rule ids ≡ b → agree ids codes sizes raw ≡ c
          → cond a (Err InputLong) (cond b (Err StatusRuleLow) (cond c passed (Err UpdateUnreadable))) ≡ passed → Accepted rules ids codes sizes raw
      go true b c p q r e = cc
      go false true c p q r e = cc
      go false false false p q r e = cc
      go false false true p q r e =
          let t₁ = neither (ltb 65536 (length rules) || ltb 65536 (length ids) || ltb 65536 (length codes) || ltb 65536 (length sizes)) (any (ltb 65535) sizes) p in
          let t₂ = neither (ltb 65536 (length rules) || ltb 65536 (length ids) || ltb 65536 (length codes)) (ltb 65536 (length sizes)) t₁.0 in
          let t₃ = neither (ltb 65536 (length rules) || ltb 65536 (length ids)) (ltb 65536 (length codes)) t₂.0 in
          let t₄ = neither (ltb 65536 (length rules)) (ltb 65536 (length ids)) t₃.0 in
          record {
            few-rules = ltb-false 65536 (length rules) t₄.0;
            few-ids = ltb-false 65536 (length ids) t₄.1;
            none-large = t₁.1;
            none-low = q;
            agrees = r;
          }

  -- the outcome of a refusal, and of none
  pub update-refused : (e : Refusal) → check_update rules ids codes sizes raw ≡ Err e → (cells : List ℕ) → refused e cells ≡ encode_update rules ids codes sizes raw cells
  unfolding encode_update
  update-refused e q cells = writing-stop (encoded rules (status_list ids codes sizes raw)) cells (check_update rules ids codes sizes raw) e q

  pub update-written : check_update rules ids codes sizes raw ≡ passed → (cells : List ℕ) → writes (encoded rules (status_list ids codes sizes raw)) cells ≡ encode_update rules ids codes sizes raw cells
  unfolding encode_update
  update-written q cells = sym (writing-go (encoded rules (status_list ids codes sizes raw)) cells (check_update rules ids codes sizes raw) q)

  -- its bytes: how many, and in which order they are stored
  module _ (a : agree ids codes sizes raw ≡ true) {f r k : ℕ} (pf : f ≡ length (vlq_bytes (length rules))) (pr : r ≡ length (rules_bytes rules)) (pk : k ≡ length (vlq_bytes (length ids))) where
    abbrev statuses : List Status
    statuses = status_list ids codes sizes raw

    count-is : length statuses ≡ length ids
    count-is = statuses-count ids codes sizes raw (agreed ids codes sizes raw a).0 (agreed ids codes sizes raw a).1

    pub update-size : {s : ℕ} → s ≡ statuses_size ids sizes → f + r + k + s ≡ length (encoded rules statuses)
    unfolding encoded
    update-size ps =
        let g = agreed ids codes sizes raw a in
        let e₁ = length-append (vlq_bytes (length rules) ++ rules_bytes rules ++ vlq_bytes (length statuses)) (statuses_bytes statuses) in
        let e₂ = length-append (vlq_bytes (length rules) ++ rules_bytes rules) (vlq_bytes (length statuses)) in
        let e₃ = length-append (vlq_bytes (length rules)) (rules_bytes rules) in
        let e₄ : length (vlq_bytes (length statuses)) ≡ length (vlq_bytes (length ids)) = ap (λ (n : ℕ). length (vlq_bytes n)) count-is in
        let e₅ = statuses-length ids codes sizes raw g.0 g.1 g.2 in
        omega (arith, pf, pr, pk, ps) ∙ sym e₁

    pub update-put : (cells : List ℕ) {x y z w : List ℕ}
        → x ≡ sets cells 0 (vlq_bytes (length rules)) → y ≡ sets x f (rules_bytes rules) → z ≡ sets y (f + r) (vlq_bytes (length ids)) → w ≡ sets z (f + r + k) (statuses_bytes statuses)
        → w ≡ sets cells 0 (encoded rules statuses)
    unfolding encoded
    update-put cells px py pz pw =
        let l : 0 + length (vlq_bytes (length rules) ++ rules_bytes rules ++ vlq_bytes (length ids)) ≡ f + r + k =
        omega (arith, pf, pr, pk, length-append (vlq_bytes (length rules) ++ rules_bytes rules) (vlq_bytes (length ids)), length-append (vlq_bytes (length rules)) (rules_bytes rules)) in
        let e = sets-append (vlq_bytes (length rules) ++ rules_bytes rules ++ vlq_bytes (length ids)) (statuses_bytes statuses) cells 0 in
        let three = sets-three (vlq_bytes (length rules)) (rules_bytes rules) (vlq_bytes (length ids)) cells 0 in
        rw (count-is, e, l, ← three, zero-add, ← pf, ← pr, pw, pz, py, px)

-- an update of rules alone
zero-bytes : vlq_bytes 0 ≡ 0 ∷ []
unfolding vlq_bytes shortest_of
zero-bytes = refl

no-statuses : (rules : List ℕ) → encoded rules [] ≡ vlq_bytes (length rules) ++ rules_bytes rules ++ 0 ∷ []
unfolding encoded statuses_bytes
no-statuses rules = append-nil (vlq_bytes (length rules) ++ rules_bytes rules ++ vlq_bytes 0) ∙ ap (λ (b : List ℕ). vlq_bytes (length rules) ++ rules_bytes rules ++ b) zero-bytes

module _ (rules cells : List ℕ) where
  pub rules-refused : 65536 < length rules → refused InputLong cells ≡ encode_rules rules cells
  unfolding encode_rules writing
  rules-refused h = rw (lt-ltb 65536 (length rules) h)

  pub rules-written : length rules ≤ 65536 → writes (encoded rules []) cells ≡ encode_rules rules cells
  unfolding encode_rules writing
  rules-written h = rw (le-ltb 65536 (length rules) h)

  module _ {f r : ℕ} (pf : f ≡ length (vlq_bytes (length rules))) (pr : r ≡ length (rules_bytes rules)) where
    pub rules-size : f + r + 1 ≡ length (encoded rules [])
    rules-size =
        let e₁ = length-append (vlq_bytes (length rules) ++ rules_bytes rules) (0 ∷ []) in
        let e₂ = length-append (vlq_bytes (length rules)) (rules_bytes rules) in
        omega (arith, pf, pr) ∙ sym (ap length (no-statuses rules) ∙ e₁)

    pub rules-stored : {x y z : List ℕ} → x ≡ sets cells 0 (vlq_bytes (length rules)) → y ≡ sets x f (rules_bytes rules) → z ≡ set y (f + r) 0 → z ≡ sets cells 0 (encoded rules [])
    rules-stored px py pz =
        let three = sets-three (vlq_bytes (length rules)) (rules_bytes rules) (0 ∷ []) cells 0 in
        rw (no-statuses rules, ← three, zero-add, ← pf, ← pr, pz, py, px)
