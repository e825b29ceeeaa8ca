-- The field at a cursor of a body, by the ways through the code.
-- Assumes nothing.
use mathlib.Core.Path.{◌≡◌, refl, sym, ap, ◌∙◌}
use mathlib.Core.List.{List, []}
use Prim.Native.Nat.{ℕ, zero, suc, ◌-◌, ◌≤◌, ◌<◌}
use native.Mathlib.Numerals.{sub-one}
use native.Mathlib.Omega.{arith}
use lib.Dec.{eqb}
use lib.ListN.{length}
use borrow.Author.Tests.{eqb-true, eqb-false}
use Rattle.std.specs.Prelude.{Some, None, Result, Ok, Err}
use Rattle.std.specs.Result.{result_err}
use Rattle.codec.specs.declared.refusal.Refusal.{Refusal}
use Rattle.voting.proofs.Laws.Tests.{by-test}
use Rattle.extension.specs.declared.section.Section.{Section}
use Rattle.extension.specs.declared.body.FieldPlace.{FieldPlace}
use Rattle.extension.specs.Section.{bad, Listing, done, stop, item, listing, items, section_items, closed}
use Rattle.extension.specs.Body.{Field, read_field, extension_of, fields_in, fields_of, body_field, field_value}
use Rattle.extension.proofs.Laws.Section.{listing_none, listing-stop, listing-item, items-done, items-stop, items-item, closed-stop}
use Rattle.extension.proofs.Laws.Body.{field-read, field-unread, at_here, refused-fields, opened}
use Rattle.lent.specs.declared.reader.Cursor.{Cursor}
use Rattle.lent.specs.declared.reader.FieldRead.{FieldRead}
use Rattle.lent.specs.Reader.{cursor_of, after_field, next_by, next_of, value_by, value_at, fields_left, field_of, Begins, Reads}

-- the body is refused
module _ (body : List ℕ) (c : Result Cursor Refusal) (e : Refusal) (q : c ≡ Err e) where
  pub next-told : Err e ≡ next_of body c
  unfolding next_of
  next-told = rw q

  none_left : fields_left body c ≡ []
  unfolding fields_left
  none_left = rw q

  pub reads-told : Reads body c (Err e)
  unfolding Reads
  reads-told = none_left

  pub value-told : [] ≡ value_at body c
  unfolding value_at
  value-told = rw q

-- it is not
module _ (body : List ℕ) (c : Result Cursor Refusal) (x : Cursor) (whole : c ≡ Ok x) where
  next-whole : next_by body x.at x.left ≡ next_of body c
  unfolding next_of
  next-whole = rw whole

  value-whole : value_by body x.at x.left ≡ value_at body c
  unfolding value_at
  value-whole = rw whole

  left-whole : fields_left body c ≡ items (listing (read_field body) x.left x.at)
  unfolding fields_left
  left-whole = rw whole

  -- no field is left
  module _ (z : x.left ≡ 0) where
    pub next-done : Ok None ≡ next_of body c
    unfolding next_by
    next-done = ap (next_by body x.at) (sym z) ∙ next-whole

    pub reads-done : Reads body c (Ok None)
    unfolding Reads
    reads-done = left-whole ∙ items-done _ x.at (listing_none (read_field body) x.left x.at (omega arith))

    pub value-done : [] ≡ value_at body c
    unfolding value_by
    value-done = ap (value_by body x.at) (sym z) ∙ value-whole

  -- one is left
  module _ (more : 0 < x.left) where
    next_more : next_of body c ≡ after_field (x.left - 1) (body_field body x.at)
    unfolding next_by
    next_more = sym next-whole ∙ go x.left more
      where
        go : (n : ℕ) → 0 < n → next_by body x.at n ≡ after_field (n - 1) (body_field body x.at)
        go zero h = absurd (omega arith)
        go (suc n) h = rw sub-one

    pub value-more : field_value body x.at ≡ value_at body c
    unfolding value_by
    value-more = go x.left more ∙ value-whole
      where
        go : (n : ℕ) → 0 < n → field_value body x.at ≡ value_by body x.at n
        go zero h = absurd (omega arith)
        go (suc n) h = refl

    -- what is read of a field that is there
    module _ (f : FieldPlace) (e : Ok f ≡ body_field body x.at) where
      abbrev read : FieldRead
      read = record { place = f; cursor = record { at = f.end; left = x.left - 1 } }

      pub next-found : Ok (Some read) ≡ next_of body c
      unfolding after_field
      next-found = ap (after_field (x.left - 1)) e ∙ sym next_more

      pub reads-found : length body ≤ 65536 → Reads body c (Ok (Some read))
      unfolding Reads fields_left
      reads-found h =
          left-whole
          ∙ items-item _ _ _
          (listing-item (read_field body) x.left x.at more (field_of body f) f.end (field-read body x.at f (e ∙ sym (at_here body x.at h))))

    module _ (e : Refusal) (q : Err e ≡ body_field body x.at) where
      pub next-refused : Err e ≡ next_of body c
      unfolding after_field
      next-refused = ap (after_field (x.left - 1)) q ∙ sym next_more

      unread : length body ≤ 65536 → read_field body x.at ≡ bad e
      unread h = field-unread body x.at e (q ∙ sym (at_here body x.at h))

      pub reads-refused : length body ≤ 65536 → Reads body c (Err e)
      unfolding Reads
      reads-refused h = left-whole ∙ items-stop _ e (listing-stop (read_field body) x.left x.at more e (unread h))

-- ---- before the first field

-- fields that are counted and read begin where they are read
closed-counted : (n begin : ℕ) (l : Listing Field) (x : Section) → closed n begin l ≡ Ok x → (x.count ≡ n) × (x.begin ≡ begin)
unfolding closed
closed-counted n begin (done end) x q = (cc, cc)
closed-counted n begin (stop e) x q = cc
closed-counted n begin (item f l) x q = closed-counted n begin l x q

-- a body that is refused
module _ (body : List ℕ) (e : Refusal) (is_e : Err e ≡ extension_of body) where
  pub cursor-refused : Err e ≡ cursor_of body
  unfolding cursor_of
  cursor-refused = rw (← is_e)

  pub begins-refused : Begins body (Err e)
  begins-refused =
      record {
        fields = none_left body (Err e) e refl ∙ sym (refused-fields body e is_e);
        told = ap result_err (sym (next-told body (Err e) e refl)) ∙ ap result_err is_e;
      }

-- a body that is not: its first field, if it has one, can be read
module _ (body : List ℕ) (x : Section) (is_x : Ok x ≡ extension_of body) where
  abbrev first : Cursor
  first = record { at = x.begin; left = x.count }

  pub cursor-is : Ok first ≡ cursor_of body
  unfolding cursor_of
  cursor-is = rw (← is_x)

  first-whole : 0 < x.count → (e : Refusal) → Err e ≡ body_field body x.begin → ⊥
  first-whole more e q =
      let o = opened body x (sym is_x) in
      let n = o.number.value in
      let begin = o.number.next in
      let l = listing (read_field body) n begin in
      let is : closed n begin l ≡ Ok x = sym o.is ∙ sym is_x in
      let at = closed-counted n begin l x is in
      let cut : read_field body begin ≡ bad e = field-unread body begin e (q ∙ ap (body_field body) at.1 ∙ sym (at_here body begin o.not-long)) in
      let refused : Err e ≡ closed n begin l = closed-stop n begin l e (listing-stop (read_field body) n begin (omega (arith, at.0)) e cut) in
      cc

  first-told : result_err (next_of body (Ok first)) ≡ None
  first-told =
      by-test (eqb x.count 0)
      (λ t. ap result_err (sym (next-done body (Ok first) first refl (eqb-true _ 0 t))))
      (λ t. go (omega (arith, eqb-false x.count 0 t)) (body_field body x.begin) refl)
    where
      go : 0 < x.count → (f : Result FieldPlace Refusal) → f ≡ body_field body x.begin → result_err (next_of body (Ok first)) ≡ None
      go more (Ok f) e = ap result_err (sym (next-found body (Ok first) first refl more f e))
      go more (Err n) e = absurd (first-whole more n e)

  fields-listed : items (listing (read_field body) x.count x.begin) ≡ fields_of body
  unfolding fields_of fields_in section_items
  fields-listed = rw (← is_x)

  pub begins : Begins body (Ok first)
  begins =
      record {
        fields = left-whole body (Ok first) first refl ∙ fields-listed;
        told = first-told ∙ ap result_err is_x;
      }
