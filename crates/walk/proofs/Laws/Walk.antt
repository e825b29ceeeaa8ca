-- One pass over the fields of a body: what is left of them gives what the whole gives.
-- Assumes nothing.
use mathlib.Core.Path.{◌≡◌, refl, sym, ap, ◌∙◌}
use mathlib.Core.Bool.{Bool, true, false, not, cond, ◌&&◌, ◌||◌}
use mathlib.Core.List.{List, [], ◌∷◌}
use Prim.Native.Nat.{ℕ, ◌+◌, ◌-◌, ◌≤◌, ◌<◌}
use native.Mathlib.Omega.{arith}
use lib.ListN.{length, set}
use borrow.Author.Tests.{not-true}
use Rattle.std.specs.Prelude.{Result, Ok, Err}
use Rattle.std.specs.Result.{result_unwrap_or}
use Rattle.codec.specs.declared.refusal.Refusal.{Refusal}
use Rattle.codec.specs.declared.refusal.Refusal.TheVariants.{ParameterSize}
use Rattle.voting.specs.Value.{Value}
use Rattle.voting.specs.declared.table.Table.{Table}
use Rattle.voting.proofs.Laws.Tests.{by-test, both}
use Rattle.extension.specs.declared.body.FieldPlace.{FieldPlace}
use Rattle.extension.specs.declared.parameters.ParameterMap.{ParameterMap}
use Rattle.extension.specs.Section.{Listing, item, listing, items, section, closed, section_items, any, part, PartIs}
use Rattle.extension.specs.Body.{Field, field_at, read_field, extension_of, proposed_update, body_field, update_key, update_in, wrong_size, wrong_parameter}
use Rattle.extension.specs.Parameters.{no_parameters, parameters_in, parameters_of}
use Rattle.extension.proofs.Laws.Section.{left_none, left-stop, left-item, closed-done, closed-stop, closed-item, items-done, items-item}
use Rattle.extension.proofs.Laws.Body.{field_in, field-read, field-unread, field-inside, at_here, wrong-place, check-refused, check-wrong, check-right, proposed-is, proposed-none}
use Rattle.extension.proofs.Laws.Parameters.{parameters-refused, parameters-is}
use Rattle.walk.specs.declared.Walked.{Walked}
use Rattle.walk.specs.Walk.{table_in, WalkedIs}
use Rattle.walk.specs.Fields.{place_of, no_slots, slot_in, stored, table_from}
use Rattle.walk.proofs.Laws.Slots.{holds-none, holds-stored, table-holds}

-- the table of a body, by what its parameters are
table-by : (s : List ℕ) → {p : Result ParameterMap Refusal} → p ≡ parameters_of s
    → table_in (result_unwrap_or p no_parameters) ≡ table_in (result_unwrap_or (parameters_of s) no_parameters)
table-by s q = ap (λ (p : Result ParameterMap Refusal). table_in (result_unwrap_or p no_parameters)) q

-- a body whose fields are not read
pub refused-is : (s : List ℕ) (e : Refusal) → Err e ≡ extension_of s → (r : Walked)
    → r ≡ record { fields = Err e; start = 0; end = 0; found = table_in no_parameters } → WalkedIs s r
refused-is s e q r is-r =
    rw is-r
    (record {
      fields = check-refused s e q;
      update = record { ordered = omega arith; inside = omega arith; is = proposed-none s e q };
      found = table-by s (parameters-refused s e (check-refused s e q));
    })

-- what was met at a position of a body that is not too long
pub met : (s : List ℕ) (at : ℕ) → length s ≤ 65536 → (x y : Result FieldPlace Refusal) → x ≡ body_field s at → x ≡ y → y ≡ field_at s at
met s at h x y is_x e = sym e ∙ is_x ∙ sym (at_here s at h)

-- so many fields from a position on
abbrev listed : List ℕ → ℕ → ℕ → Listing Field
listed s n at = listing (read_field s) n at

-- a place in the pass, after k fields: what was kept so far, with what is left of the fields, gives what all of them give
pub record Walking (s : List ℕ) (count begin k at : ℕ) (wrong seen : Bool) (start end : ℕ) (found : List Value) : Type 0 where
  pub closes : closed count begin (listed s (count - k) at) ≡ closed count begin (listed s count begin)
  pub wrongs : (wrong || any wrong_parameter (items (listed s (count - k) at))) ≡ any wrong_parameter (items (listed s count begin))
  pub ordered : start ≤ end
  pub inside : end ≤ length s
  pub unseen : seen ≡ false → part s start end ≡ []
  pub update : cond seen (part s start end) (update_in (items (listed s (count - k) at))) ≡ update_in (items (listed s count begin))
  pub slots : stored (items (listed s (count - k) at)) found ≡ stored (items (listed s count begin)) no_slots

module _ (s : List ℕ) (count begin k at : ℕ) (wrong seen : Bool) (start end : ℕ) (found : List Value) (w : Walking s count begin k at wrong seen start end found) where
  -- a field
  module _ (more : k < count) (f : FieldPlace) (e : Ok f ≡ field_at s at) (bad : Bool) (is-bad : bad ≡ wrong_size f.key0 f.key1 (f.end - f.start))
      (j : ℕ) (is-j : j ≡ place_of f.key0 f.key1) (x : Value) (is_x : x ≡ slot_in (part s f.start f.end)) (u : Bool) (is-u : u ≡ update_key f.key0 f.key1) where
    next : listed s (count - k) at ≡ item (field_in s f) (listed s (count - (k + 1)) f.end)
    next = left-item (read_field s) count k at more (field_in s f) f.end (field-read s at f e)

    here : items (listed s (count - k) at) ≡ field_in s f ∷ items (listed s (count - (k + 1)) f.end)
    here = items-item _ _ _ next

    closes-on : closed count begin (listed s (count - (k + 1)) f.end) ≡ closed count begin (listed s count begin)
    closes-on = closed-item count begin _ _ _ next ∙ w.closes

    or-next : (a b c : Bool) → ((a || b) || c) ≡ (a || (b || c))
    or-next true b c = refl
    or-next false b c = refl

    wrongs-on : ((wrong || bad) || any wrong_parameter (items (listed s (count - (k + 1)) f.end))) ≡ any wrong_parameter (items (listed s count begin))
    unfolding any
    wrongs-on =
        let rest = any wrong_parameter (items (listed s (count - (k + 1)) f.end)) in
        or-next wrong bad rest
        ∙ ap (λ (b : Bool). wrong || (b || rest)) (sym (wrong-place s at f e bad is-bad))
        ∙ ap (λ (fs : List Field). wrong || any wrong_parameter fs) (sym here)
        ∙ w.wrongs

    slots-on : stored (items (listed s (count - (k + 1)) f.end)) (set found j x) ≡ stored (items (listed s count begin)) no_slots
    unfolding stored
    slots-on = rw (is-j, is_x) (ap (λ (fs : List Field). stored fs found) (sym here) ∙ w.slots)

    -- the first update field
    pub walk-update : (not seen && u) ≡ true → Walking s count begin (k + 1) f.end (wrong || bad) true f.start f.end (set found j x)
    unfolding update_in
    walk-update t =
        let b = both (not seen) u t in
        let i = field-inside s at f e in
        let first = not-true seen b.0 in
        let key : update_key f.key0 f.key1 ≡ true = sym is-u ∙ b.1 in
        record {
          closes = closes-on;
          wrongs = wrongs-on;
          ordered = omega (arith, i.size_is);
          inside = i.end-inside;
          unseen = λ z. cc;
          update = sym (sym w.update ∙ rw (first, here, key));
          slots = slots-on;
        }

    -- any other
    pub walk-on : (not seen && u) ≡ false → Walking s count begin (k + 1) f.end (wrong || bad) seen start end (set found j x)
    unfolding update_in
    walk-on t =
        record {
          closes = closes-on;
          wrongs = wrongs-on;
          ordered = w.ordered;
          inside = w.inside;
          unseen = w.unseen;
          update = by-test seen (λ y. rw y (rw y at w.update)) (λ n. let key : update_key f.key0 f.key1 ≡ false = sym is-u ∙ (rw n at t) in rw n (sym (sym (rw n at w.update) ∙ rw (here, key))));
          slots = slots-on;
        }

  -- the end, or a field that is cut
  module _ (is_Is_body : closed count begin (listed s count begin) ≡ extension_of s) where
    pub walk-cut : k < count → (e : Refusal) → Err e ≡ field_at s at → Err e ≡ extension_of s
    walk-cut more e q = closed-stop count begin _ e (left-stop (read_field s) count k at more e (field-unread s at e q)) ∙ w.closes ∙ is_Is_body

    module _ (none : count ≤ k) where
      over : items (listed s (count - k) at) ≡ []
      over = items-done _ at (left_none (read_field s) count k at none)

      read_is : Ok (section count begin at) ≡ extension_of s
      read_is = closed-done count begin _ at (left_none (read_field s) count k at none) ∙ w.closes ∙ is_Is_body

      or-none : (b : Bool) → (b || false) ≡ b
      or-none true = refl
      or-none false = refl

      wrong-is : wrong ≡ any wrong_parameter (section_items (read_field s) (section count begin at))
      unfolding any section_items
      wrong-is = sym (or-none wrong) ∙ ap (λ (fs : List Field). wrong || any wrong_parameter fs) (sym over) ∙ w.wrongs

      update-is : PartIs s start end (proposed_update s)
      unfolding update_in section_items
      update-is =
          record {
            ordered = w.ordered;
            inside = w.inside;
            is =
                by-test seen (λ y. rw y at w.update) (λ n. w.unseen n ∙ ap update_in (sym over) ∙ (rw n at w.update))
                ∙ proposed-is s (section count begin at) read_is;
          }

      pub walk-wrong : wrong ≡ true → (t : Table) → t ≡ table_in no_parameters
          → WalkedIs s (record { fields = Err ParameterSize; start = start; end = end; found = t })
      walk-wrong y t is-t =
          let refused = check-wrong s (section count begin at) read_is wrong wrong-is y in
          record { fields = refused; update = update-is; found = is-t ∙ table-by s (parameters-refused s ParameterSize refused) }

      pub walk-right : wrong ≡ false → (t : Table) → t ≡ table_from found
          → WalkedIs s (record { fields = Ok (section count begin at); start = start; end = end; found = t })
      unfolding stored section_items
      walk-right n t is-t =
          let fs = items (listed s count begin) in
          let all : found ≡ stored fs no_slots = ap (λ (gs : List Field). stored gs found) (sym over) ∙ w.slots in
          let right = check-right s (section count begin at) read_is wrong wrong-is n in
          record {
            fields = right;
            update = update-is;
            found =
                is-t ∙ ap table_from all
                ∙ table-holds (stored fs no_slots) (parameters_in fs no_parameters) (holds-stored fs no_slots no_parameters holds-none (sym wrong-is ∙ n))
                ∙ table-by s (parameters-is s (section count begin at) right (parameters_in fs no_parameters) refl);
          }
