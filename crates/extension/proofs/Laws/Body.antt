-- A field at a position, the fields of a body, and its tests in order.
-- Assumes nothing.
use mathlib.Core.Path.{◌≡◌, refl, sym, ap, ◌∙◌}
use mathlib.Core.Bool.{Bool, true, false, cond}
use mathlib.Core.List.{List, [], ◌∷◌}
use Prim.Native.Nat.{ℕ, ◌+◌, ◌-◌, ◌≤◌, ◌<◌}
use native.Mathlib.Omega.{arith}
use borrow.Author.Tests.{lt-ltb, le-ltb, ltb-false}
use lib.Dec.{ltb}
use lib.ListN.{length, get_or, take}
use lib.Seq.{length-take-le}
use Rattle.codec.specs.declared.refusal.Refusal.{Refusal}
use Rattle.codec.specs.declared.refusal.Refusal.TheVariants.{BodyShort, CountUnreadable, FieldHeaderCut, ValueLong, ValueCut, ParameterSize, InputLong}
use Rattle.codec.specs.Vlq.{vlq_at}
use Rattle.std.specs.Prelude.{Some, None, Option, Result, Ok, Err}
use Rattle.std.specs.Result.{result_and}
use Rattle.codec.specs.declared.vlq.Number.{Number}
use Rattle.extension.specs.declared.section.Section.{Section}
use Rattle.extension.specs.declared.body.FieldPlace.{FieldPlace}
use Rattle.extension.specs.Section.{got, bad, listing, closed, section_items, part, any}
use Rattle.extension.specs.Body.{Field, field_at, field_reading, read_field, fields_from, extension_of, head_by, head_of, fields_in, fields_of, id_in, header_id, body_field, value_of, field_value, update_key, update_in, proposed_update, wrong_size, wrong_parameter, check_sizes, check_body}
use Rattle.voting.proofs.Laws.Tests.{by-test}
use Rattle.extension.proofs.Laws.Parts.{part_length}

-- what stands at a position, by the tests in order
module _ (s : List ℕ) (at : ℕ) where
  pub field_cut : length s < at + 3 → Err FieldHeaderCut ≡ field_at s at
  unfolding field_at
  field_cut h = rw (lt-ltb _ _ h)

  module _ (h : at + 3 ≤ length s) where
    pub field-long : 64 < get_or s (at + 2) 0 → Err ValueLong ≡ field_at s at
    unfolding field_at
    field-long l = rw (le-ltb _ _ h, lt-ltb _ _ l)

    module _ (l : get_or s (at + 2) 0 ≤ 64) where
      pub field-over : length s < at + 3 + get_or s (at + 2) 0 → Err ValueCut ≡ field_at s at
      unfolding field_at
      field-over o = rw (le-ltb _ _ h, le-ltb _ _ l, lt-ltb _ _ o)

      pub field-here : at + 3 + get_or s (at + 2) 0 ≤ length s
          → Ok (record { key0 = get_or s at 0; key1 = get_or s (at + 1) 0; start = at + 3; end = at + 3 + get_or s (at + 2) 0 }) ≡ field_at s at
      unfolding field_at
      field-here o = rw (le-ltb _ _ h, le-ltb _ _ l, le-ltb _ _ o)

-- a field that is there
abbrev pub field_in : List ℕ → FieldPlace → Field
field_in s f = record { key0 = f.key0; key1 = f.key1; value = part s f.start f.end }

module _ (s : List ℕ) (at : ℕ) where
  pub field-read : (f : FieldPlace) → Ok f ≡ field_at s at → read_field s at ≡ got (field_in s f) f.end
  unfolding read_field field_reading
  field-read f e = rw (← e)

  pub field-unread : (e : Refusal) → Err e ≡ field_at s at → read_field s at ≡ bad e
  unfolding read_field field_reading
  field-unread e q = rw (← q)

-- its value has at most 64 bytes and lies inside, after the key and the length
pub record Inside (s : List ℕ) (at : ℕ) (f : FieldPlace) : Type 0 where
  pub start_is : f.start ≡ at + 3
  pub size_is : f.end ≡ f.start + get_or s (at + 2) 0
  pub size-most : get_or s (at + 2) 0 ≤ 64
  pub end-inside : f.end ≤ length s
  pub first_key : f.key0 ≡ get_or s at 0
  pub second_key : f.key1 ≡ get_or s (at + 1) 0

pub field-inside : (s : List ℕ) (at : ℕ) (f : FieldPlace) → Ok f ≡ field_at s at → Inside s at f
unfolding field_at
field-inside s at f e = go (ltb (length s) (at + 3)) (ltb 64 (get_or s (at + 2) 0)) (ltb (length s) (at + 3 + get_or s (at + 2) 0)) refl refl e
  where
    go : (p q r : Bool) → ltb 64 (get_or s (at + 2) 0) ≡ q → ltb (length s) (at + 3 + get_or s (at + 2) 0) ≡ r
        → Ok f ≡ cond p (Err FieldHeaderCut) (cond q (Err ValueLong) (cond r (Err ValueCut) (Ok (record { key0 = get_or s at 0; key1 = get_or s (at + 1) 0; start = at + 3; end = at + 3 + get_or s (at + 2) 0 }))))
        → Inside s at f
    go true q r hq hr x = cc
    go false true r hq hr x = cc
    go false false true hq hr x = cc
    go false false false hq hr x =
        let es : f.start ≡ at + 3 = cc in
        let ee : f.end ≡ at + 3 + get_or s (at + 2) 0 = cc in
        let ea : f.key0 ≡ get_or s at 0 = cc in
        let eb : f.key1 ≡ get_or s (at + 1) 0 = cc in
        record {
          start_is = es;
          size_is = omega arith;
          size-most = ltb-false _ _ hq;
          end-inside = omega (arith, ltb-false (length s) (at + 3 + get_or s (at + 2) 0) hr);
          first_key = ea;
          second_key = eb;
        }

-- a body, by its tests in order
module _ (s : List ℕ) where
  pub body-long : 65536 < length s → Err InputLong ≡ extension_of s
  unfolding extension_of
  body-long h = rw (lt-ltb _ _ h)

  module _ (h : length s ≤ 65536) where
    pub body-short : length s < 32 → Err BodyShort ≡ extension_of s
    unfolding extension_of
    body-short l = rw (le-ltb _ _ h, lt-ltb _ _ l)

    module _ (l : 32 ≤ length s) where
      pub body-uncounted : None ≡ vlq_at 32 s 32 → Err CountUnreadable ≡ extension_of s
      unfolding extension_of fields_from
      body-uncounted e = rw (le-ltb _ _ h, le-ltb _ _ l, ← e)

      pub body-counted : (m : Number) → Some m ≡ vlq_at 32 s 32
          → closed m.value m.next (listing (read_field s) m.value m.next) ≡ extension_of s
      unfolding extension_of fields_from
      body-counted m e = rw (le-ltb _ _ h, le-ltb _ _ l, ← e)

-- what stands before its fields, by the same tests
module _ (s : List ℕ) where
  pub head-long : 65536 < length s → Err InputLong ≡ head_of s
  unfolding head_of
  head-long h = rw (lt-ltb _ _ h)

  module _ (h : length s ≤ 65536) where
    pub head-short : length s < 32 → Err BodyShort ≡ head_of s
    unfolding head_of
    head-short l = rw (le-ltb _ _ h, lt-ltb _ _ l)

    module _ (l : 32 ≤ length s) where
      pub head-uncounted : None ≡ vlq_at 32 s 32 → Err CountUnreadable ≡ head_of s
      unfolding head_of head_by
      head-uncounted e = rw (le-ltb _ _ h, le-ltb _ _ l, ← e)

      pub head-counted : (m : Number) → Some m ≡ vlq_at 32 s 32 → Ok (record { count = m.value; begin = m.next }) ≡ head_of s
      unfolding head_of head_by
      head-counted m e = rw (le-ltb _ _ h, le-ltb _ _ l, ← e)

-- a body that is read has room for its id, and a count
pub record Opened (body : List ℕ) : Type 0 where
  pub not-long : length body ≤ 65536
  pub has-id : 32 ≤ length body
  pub number : Number
  pub counted : Some number ≡ vlq_at 32 body 32
  pub is : extension_of body ≡ closed number.value number.next (listing (read_field body) number.value number.next)

pub opened : (body : List ℕ) (x : Section) → extension_of body ≡ Ok x → Opened body
unfolding extension_of fields_from
opened body x = go (ltb 65536 (length body)) (ltb (length body) 32) (vlq_at 32 body 32) refl refl refl
  where
    go : (t u : Bool) (r : Option Number) → ltb 65536 (length body) ≡ t → ltb (length body) 32 ≡ u → vlq_at 32 body 32 ≡ r
        → cond t (Err InputLong) (cond u (Err BodyShort) (fields_from body r)) ≡ Ok x → Opened body
    go true u r p q e z = cc
    go false true r p q e z = cc
    go false false None p q e z = cc
    go false false (Some m) p q e z =
        record { not-long = ltb-false 65536 (length body) p; has-id = ltb-false (length body) 32 q; number = m; counted = sym e; is = rw (p, q, e) }

-- what a body holds, by what its reader answered: refused, it has no id, no field and no update
module _ (s : List ℕ) (e : Refusal) (is_e : Err e ≡ extension_of s) where
  pub id-none : [] ≡ header_id s
  unfolding header_id id_in
  id-none = rw (← is_e)

  pub refused-fields : fields_of s ≡ []
  unfolding fields_of fields_in
  refused-fields = rw (← is_e)

  pub proposed-none : [] ≡ proposed_update s
  unfolding proposed_update update_in
  proposed-none = rw refused-fields

  pub check-refused : Err e ≡ check_body s
  unfolding check_body
  check-refused = rw (← is_e)

-- so 6 may be tested alone: a refused body has no parameter of another size
pub check-body-by : (s : List ℕ) → check_body s ≡ cond (any wrong_parameter (fields_of s)) (Err ParameterSize) (extension_of s)
unfolding check_body check_sizes fields_of fields_in any
check-body-by s = go (extension_of s)
  where
    go : (r : Result Section Refusal)
        → result_and r (result_and (check_sizes (fields_in s r)) r) ≡ cond (any wrong_parameter (fields_in s r)) (Err ParameterSize) r
    go (Ok x) = by-test (any wrong_parameter (section_items (read_field s) x)) (λ t. rw t) (λ t. rw t)
    go (Err e) = refl

-- read, it has the id, the fields and the update that stand in it
module _ (s : List ℕ) (x : Section) (is_x : Ok x ≡ extension_of s) where
  pub id-here : take 32 s ≡ header_id s
  unfolding header_id id_in
  id-here = rw (← is_x)

  pub id-size : 32 ≡ length (take 32 s)
  id-size = sym (length-take-le 32 s (opened s x (sym is_x)).has-id)

  pub proposed-is : update_in (section_items (read_field s) x) ≡ proposed_update s
  unfolding proposed_update fields_of fields_in
  proposed-is = rw (← is_x)

  -- 6, by whether a parameter has another size
  module _ (w : Bool) (is-w : w ≡ any wrong_parameter (section_items (read_field s) x)) where
    wrong-is : any wrong_parameter (fields_of s) ≡ w
    unfolding fields_of fields_in
    wrong-is = rw (← is_x) (sym is-w)

    pub check-wrong : w ≡ true → Err ParameterSize ≡ check_body s
    check-wrong t = sym (check-body-by s ∙ rw (wrong-is, t))

    pub check-right : w ≡ false → Ok x ≡ check_body s
    check-right t = is_x ∙ sym (check-body-by s ∙ rw (wrong-is, t))

-- a position of a body
module _ (s : List ℕ) (at : ℕ) where
  pub at_long : 65536 < length s → Err InputLong ≡ body_field s at
  unfolding body_field
  at_long h = rw (lt-ltb _ _ h)

  pub at_here : length s ≤ 65536 → field_at s at ≡ body_field s at
  unfolding body_field
  at_here h = rw (le-ltb _ _ h)

  pub value-here : (f : FieldPlace) → Ok f ≡ body_field s at → part s f.start f.end ≡ field_value s at
  unfolding field_value value_of
  value-here f e = rw (← e)

  pub value_none : (e : Refusal) → Err e ≡ body_field s at → [] ≡ field_value s at
  unfolding field_value value_of
  value_none e q = rw (← q)

  pub at-inside : (f : FieldPlace) → Ok f ≡ body_field s at → (f.start ≤ f.end) × (f.end ≤ length s)
  unfolding body_field
  at-inside f e = go (ltb 65536 (length s)) e
    where
      go : (p : Bool) → Ok f ≡ cond p (Err InputLong) (field_at s at) → (f.start ≤ f.end) × (f.end ≤ length s)
      go true x = cc
      go false x = let i = field-inside s at f x in (omega (arith, i.size_is), i.end-inside)

-- the update among the fields that are left
module _ (fs : List Field) where
  pub update-none : fs ≡ [] → [] ≡ update_in fs
  unfolding update_in
  update-none e = rw e

  pub update_here : (f : Field) (rest : List Field) → fs ≡ f ∷ rest → update_key f.key0 f.key1 ≡ true → f.value ≡ update_in fs
  unfolding update_in
  update_here f rest e t = rw (e, t)

  pub update-next : (f : Field) (rest : List Field) → fs ≡ f ∷ rest → update_key f.key0 f.key1 ≡ false → update_in rest ≡ update_in fs
  unfolding update_in
  update-next f rest e t = rw (e, t)

-- the size of a field that is there, by its place
pub wrong-place : (s : List ℕ) (at : ℕ) (f : FieldPlace) → Ok f ≡ field_at s at → (w : Bool) → w ≡ wrong_size f.key0 f.key1 (f.end - f.start)
    → wrong_parameter (field_in s f) ≡ w
unfolding wrong_parameter
wrong-place s at f e w q =
    let i = field-inside s at f e in
    let l : length (part s f.start f.end) ≡ f.end - f.start = part_length s f.start f.end i.end-inside in
    ap (wrong_size f.key0 f.key1) l ∙ sym q
