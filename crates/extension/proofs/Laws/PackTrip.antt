-- A body that was read is packed as it stands; and what the entries of parameters hold.
-- Assumes nothing.
use mathlib.Core.Path.{◌≡◌, refl, sym, ap, ◌∙◌, subst, subst⁻¹}
use mathlib.Core.Bool.{false}
use mathlib.Core.List.{List, [], ◌∷◌}
use Prim.Native.Nat.{ℕ, zero, suc, ◌+◌, ◌-◌, ◌≤◌, ◌<◌}
use native.Mathlib.Nat.{add-zero}
use native.Mathlib.Numerals.{sub-one}
use native.Mathlib.Omega.{arith}
use mir.Syntax.{w32}
use mir.Val.{Val, SFits}
use denote.Array.{each}
use denote.Builtin.{i32}
use denote.Shadow.{shadow}
use borrow.Author.Rules.{rules}
use borrow.Author.Tests.{le-ltb, ltb-false}
use lib.Dec.{ltb}
use lib.ListN.{length, get_or, drop, take-append-drop, length-drop}
use lib.Seq.{take_all, take-add, get_or-drop, drop-drop}
use Rattle.codec.specs.declared.refusal.Refusal.{Refusal}
use Rattle.codec.specs.declared.refusal.Refusal.TheVariants.{FieldHeaderCut, ValueLong, ValueCut}
use Rattle.codec.specs.Check.{passed}
use Rattle.codec.specs.Vlq.{vlq_bytes}
use Rattle.codec.proofs.Laws.VlqTrip.{Inside, read-inside}
use Rattle.voting.specs.Value.{Value}
use Rattle.std.specs.Prelude.{None, Some, Result, Ok}
use Rattle.std.specs.contracts.option.Option as option
use Rattle.voting.proofs.Laws.Tests.{by-test}
use Rattle.extension.specs.declared.section.Section.{Section}
use Rattle.extension.specs.declared.parameters.ParameterMap.{ParameterMap}
use Rattle.extension.specs.Section.{got, bad, Listing, done, item, listing, items, all_read, section, closed, part, any}
use Rattle.extension.specs.Body.{Field, field_at, field_reading, read_field, extension_of, id_in, header_id}
use Rattle.extension.specs.Parameters.{entry_of}
use Rattle.extension.specs.Pack.{wire_list, wire_fields, long_value, check_fields, packed, BodyBack, BodyAgain}
use Rattle.extension.proofs.Laws.Section.{listing_none, listing-stop, listing-item}
use Rattle.extension.proofs.Laws.Body.{Opened, opened}
use Rattle.extension.proofs.Laws.Pack.{size_at, field_there, wire-here, value-length, wire-none, wire-end, wire-item}

-- a field that a body's reader takes
pub field-here : (s : List ℕ) (at : ℕ) → at + 3 + size_at s at ≤ length s → size_at s at ≤ 64 → read_field s at ≡ got (field_there s at) (at + 3 + size_at s at)
unfolding read_field field_reading field_at
field-here s at i m =
    let h : at + 3 ≤ length s = omega arith in
    rw (le-ltb (length s) (at + 3) h, le-ltb 64 (size_at s at) m, le-ltb (length s) (at + 3 + size_at s at) i)

-- a position of the list that a body has from b on is a position of the body
module _ (body : List ℕ) (b at : ℕ) where
  pub size-there : size_at (drop b body) at ≡ size_at body (b + at)
  size-there = get_or-drop b body (at + 2) 0 ∙ ap (λ (i : ℕ). get_or body i 0) (omega arith)

  pub field-there : field_there (drop b body) at ≡ field_there body (b + at)
  field-there =
      let e : b + (at + 1) ≡ b + at + 1 = omega arith in
      let i : at + 3 + size_at body (b + at) - (at + 3) ≡ size_at body (b + at) = omega arith in
      let j : b + at + 3 + size_at body (b + at) - (b + at + 3) ≡ size_at body (b + at) = omega arith in
      let k : b + (at + 3) ≡ b + at + 3 = omega arith in
      rw (size-there, get_or-drop b body at 0, get_or-drop b body (at + 1) 0, e, i, j, drop-drop (at + 3) b body, k)

-- a listing that gives these fields and no refusal
abbrev pub Lists : List Field → Listing Field → Type 0
Lists fs l = (items l ≡ fs) × (all_read l ≡ passed)

pub wire-past : (s : List ℕ) (k at : ℕ) → length s ≤ at → Lists [] (wire_list k s at)
unfolding items all_read
wire-past s zero at h = subst⁻¹ (Lists []) (wire-none s 0 at (omega arith)) (refl, refl)
wire-past s (suc k) at h = subst⁻¹ (Lists []) (wire-end s (suc k) at (omega arith) h) (refl, refl)

pub fine : (l : Listing Field) (fs : List Field) → Lists fs l → length fs ≤ 65536 → any long_value fs ≡ false → check_fields l ≡ passed
unfolding check_fields
fine l fs e h a = rw (e.0, le-ltb 65536 (length fs) h, a) e.1

-- A body that was read, and packed again. What a body's reader may meet at a position.
by_field : {P : Type 0} (s : List ℕ) (at : ℕ) → ((e : Refusal) → read_field s at ≡ bad e → P) → (at + 3 + size_at s at ≤ length s → size_at s at ≤ 64 → P) → P
unfolding read_field field_reading field_at
by_field s at f g =
    by-test (ltb (length s) (at + 3)) (λ p. f FieldHeaderCut (rw p))
    (λ p. by-test (ltb 64 (size_at s at)) (λ q. f ValueLong (rw (p, q)))
    (λ q. by-test (ltb (length s) (at + 3 + size_at s at)) (λ r. f ValueCut (rw (p, q, r)))
    (λ r. g (ltb-false (length s) (at + 3 + size_at s at) r) (ltb-false 64 (size_at s at) q))))

-- the fields that a body's reader takes, up to the body's end, are a list that the writer takes
module _ (body : List ℕ) (b count begin : ℕ) where
  record Back (n at : ℕ) (x : Section) (w : Listing Field) : Type 0 where
    same_count : x.count ≡ count
    same-begin : x.begin ≡ begin
    as_many : length (items w) ≡ n
    none-long : any long_value (items w) ≡ false
    none-cut : all_read w ≡ passed
    room : at + n ≤ length (drop b body)

  abbrev Closes : ℕ → ℕ → Listing Field → Listing Field → Type 0
  Closes n at l w = (x : Section) → closed count begin l ≡ Ok x → x.end ≡ length body → Back n at x w

  item_back : (n at next : ℕ) (f : Field) (l w : Listing Field) → length f.value ≤ 64 → at < next → Closes n next l w → Closes (suc n) at (item f l) (item f w)
  unfolding closed items any long_value all_read
  item_back n at next f l w s h g x r e =
      let k = g x r e in
      record {
        same_count = k.same_count;
        same-begin = k.same-begin;
        as_many = ap suc k.as_many;
        none-long = rw (le-ltb 64 (length f.value) s) k.none-long;
        none-cut = k.none-cut;
        room = omega (arith, k.room);
      }

  last-back : (at : ℕ) (w : Listing Field) → Lists [] w → b ≤ length body → Closes 0 at (done (b + at)) w
  unfolding closed any
  last-back at w l i x r e =
      let q : section count begin (b + at) ≡ x = cc in
      let f : b + at ≡ x.end = ap (λ (y : Section). y.end) q in
      record {
        same_count = sym (ap (λ (y : Section). y.count) q);
        same-begin = sym (ap (λ (y : Section). y.begin) q);
        as_many = ap length l.0;
        none-long = ap (any long_value) l.0;
        none-cut = l.1;
        room = omega (arith, length-drop b body);
      }

  -- one field more, where the list has bytes for it
  step_back : (n at k : ℕ) → at + 3 + size_at (drop b body) at ≤ length (drop b body) → size_at (drop b body) at ≤ 64 → length (drop b body) ≤ at + k
      → ((j : ℕ) → length (drop b body) ≤ at + 3 + size_at (drop b body) at + j
      → Closes n (at + 3 + size_at (drop b body) at) (listing (read_field body) n (b + (at + 3 + size_at (drop b body) at))) (wire_list j (drop b body) (at + 3 + size_at (drop b body) at)))
      → Closes (suc n) at (item (field_there (drop b body) at) (listing (read_field body) n (b + (at + 3 + size_at (drop b body) at)))) (wire_list k (drop b body) at)
  step_back n at zero i m h g = absurd (omega arith)
  step_back n at (suc k) i m h g =
      let s = drop b body in
      let next = at + 3 + size_at s at in
      let l = listing (read_field body) n (b + next) in
      subst⁻¹ (Closes (suc n) at (item (field_there s at) l)) (wire-item s (suc k) at (omega arith) (omega arith) (field_there s at) next (wire-here s at i))
      (rw sub-one (item_back n at next (field_there s at) l (wire_list k s next) (omega (arith, value-length s at i, m)) (omega arith) (g k (omega arith))))

  reads-back : b ≤ length body → (n at k : ℕ) → length (drop b body) ≤ at + k → Closes n at (listing (read_field body) n (b + at)) (wire_list k (drop b body) at)
  unfolding closed
  reads-back z zero at k h =
      subst⁻¹ (λ (l : Listing Field). Closes 0 at l (wire_list k (drop b body) at)) (listing_none (read_field body) 0 (b + at) (omega arith))
      (λ x r e.
      let q : section count begin (b + at) ≡ x = cc in
      let f : b + at ≡ x.end = ap (λ (y : Section). y.end) q in
      last-back at (wire_list k (drop b body) at) (wire-past (drop b body) k at (omega (arith, length-drop b body))) z x r e)
  reads-back z (suc n) at k h =
      let s = drop b body in
      let next = at + 3 + size_at s at in
      let p : 0 < suc n = omega arith in
      by_field body (b + at)
      (λ e q. subst⁻¹ (λ (l : Listing Field). Closes (suc n) at l (wire_list k s at)) (listing-stop (read_field body) (suc n) (b + at) p e q) (λ x r f. cc))
      (λ i m.
      let y = size-there body b at in
      let d = length-drop b body in
      let q : b + at + 3 + size_at body (b + at) ≡ b + next = omega (arith, y) in
      subst⁻¹ (λ (l : Listing Field). Closes (suc n) at l (wire_list k s at))
      (listing-item (read_field body) (suc n) (b + at) p (field_there s at) (b + next) (field-here body (b + at) i m ∙ rw (← field-there body b at, q)))
      (rw sub-one (step_back n at k (omega (arith, y, d, i)) (omega (arith, y, m)) h (reads-back z n next))))

-- the id, the count and the rest are the body
module _ (body : List ℕ) (o : Opened body) where
  abbrev field_count : ℕ
  field_count = o.number.value

  abbrev field_start : ℕ
  field_start = o.number.next

  inside : Inside 32 (length body) 32 o.number
  inside = read-inside 32 32 body o.number o.counted

  abbrev field_bytes : List ℕ
  field_bytes = drop field_start body

  closes : Closes body field_start field_count field_start field_count 0 (listing (read_field body) field_count field_start) (wire_fields field_bytes)
  unfolding wire_fields
  closes =
      subst (λ (at : ℕ). Closes body field_start field_count field_start field_count 0 (listing (read_field body) field_count at) (wire_list (length field_bytes) field_bytes 0)) (add-zero field_start)
      (reads-back body field_start field_count field_start inside.inside field_count 0 (length field_bytes) (omega arith))

  module _ (x : Section) (is-x : extension_of body ≡ Ok x) where
    again : Back body field_start field_count field_start field_count 0 x (wire_fields field_bytes) → part body 32 x.begin ≡ vlq_bytes x.count → x.end ≡ length body → BodyBack body x
    unfolding packed header_id id_in
    again k c e = record { accepted = rw is-rest ok; same_bytes = rw is-rest bytes }
      where
        is-rest : part body x.begin x.end ≡ field_bytes
        is-rest = rw (k.same-begin, e) (take_all (length body - field_start) field_bytes (omega (arith, length-drop field_start body)))

        ok : check_fields (wire_fields field_bytes) ≡ passed
        ok = fine (wire_fields field_bytes) (items (wire_fields field_bytes)) (refl, k.none-cut) (omega (arith, k.as_many, k.room, o.not-long, length-drop field_start body)) k.none-long

        bytes : packed (header_id body) field_bytes ≡ body
        bytes =
            let c' : part body 32 field_start ≡ vlq_bytes field_count = rw (k.same-begin, k.same_count) at c in
            let d : 32 + (field_start - 32) ≡ field_start = omega (arith, inside.after) in
            rw (is-x, k.as_many, ← c', ← take-add 32 (field_start - 32) body, d) (take-append-drop field_start body)

pub body-again : (body : List ℕ) → BodyAgain body (extension_of body)
body-again body x z c e = let o = opened body x z in again body o x z (closes body o x (sym o.is ∙ z) e) c e

-- the same of what a body's reader answered
pub parsed-again : (body : List ℕ) (r : Result Section Refusal) → r ≡ extension_of body → (r ≡ extension_of body) × BodyAgain body r
parsed-again body r e = (e, subst⁻¹ (BodyAgain body) e (body-again body))

-- a number that a signed 32-bit cell can hold
abbrev pub Held : Value → Type 0
Held None = Unit {0}
Held (Some z) = SFits w32 z

-- every entry's number fits a signed 32-bit cell
abbrev pub Sound : ParameterMap → Type 0
Sound m = (id : ℕ) → Held (entry_of m id)

-- what owning an array of entries tells of their numbers
abbrev Cell : Type 0
Cell = (option.the_row i32).Denot

one-held : (v : Value) (u : Val) → shadow ((option.the_row i32).own_val v (u ∷ [])) → Held v
one-held None u p = tt
one-held (Some z) u p = search rules

pub all_held : (xs : List Value) (us : List Val) → shadow (each Cell (option.the_row i32).own_val xs us) → (i : ℕ) → Held (get_or xs i None)
all_held [] us p i = tt
all_held (x ∷ xs) [] p i = absurd p
all_held (x ∷ xs) (u ∷ us) p zero = one-held x u p.0
all_held (x ∷ xs) (u ∷ us) p (suc i) = all_held xs us p.1 i
