-- The steps of the ordinary parameters at a boundary, by what was counted in the epoch before.
-- Assumes nothing.
use Rattle.std.proofs.Common.{◌≡◌, ℕ, zero, suc, ◌+◌, ◌-◌, ◌/◌, ◌<◌, Bool, true, false, cond, not, ◌&&◌, eqb, ltb, ◌⊎◌, List, [], ◌∷◌, ℤ, pos, negsuc, ◌+ℤ◌, ◌-ℤ◌, sym, refl, ap, ◌∙◌, subst, subst₂, inl, inr, true≢false, arith, ltb-true, le-ltb, lt-ltb, eq-eqb, eqb-true, le-leb}
use lib.IntN.{+ℤ_comm, +ℤ_assoc, +ℤ_invr, +ℤ-neg_ℤ_cancel, -ℤ-+ℤ_cancel}
use lib.Signed.{lt_z}
use borrow.Author.Tests.{eqb-false}
use Rattle.codec.specs.Signed.{signed_of}
use Rattle.voting.specs.declared.settings.VotingConfig.{VotingConfig}
use Rattle.voting.specs.Value.{Value}
use Rattle.std.specs.Prelude.{Some, Ok}
use Rattle.voting.specs.declared.table.Fork.{Fork}
use Rattle.voting.specs.declared.table.Table.{Table}
use Rattle.voting.specs.declared.tally.Entry.{Entry}
use Rattle.voting.specs.declared.boundary.Boundary.{Boundary}
use Rattle.voting.specs.Common.{eq_z, Each, Pairwise, Bytes}
use Rattle.voting.specs.Settings.{voting_length, change_approved}
use Rattle.voting.specs.Table.{with_fork, lookup, update}
use Rattle.voting.specs.Header.{soft_fork_vote, AllLegal}
use Rattle.voting.specs.Tally.{headers, whole, seeded, entries, first_count, counted_for}
use Rattle.voting.specs.Ordinary.{least_of, greatest_of, parameter, raised, lowered, moved, known, counts, voted, ordinary_votes}
use Rattle.voting.specs.Boundary.{is_number, is_absent, with_subblocks, boundary_of}
use Rattle.voting.specs.Order.{Compatible, Consistent}
use Rattle.voting.specs.Steps.{step_of, Step, Stepped}
use Rattle.voting.proofs.Laws.Tests.{by-test, both, then_ok}
use Rattle.voting.proofs.Laws.Integers.{ne-eq_z}
use Rattle.voting.proofs.Laws.Each.{each, pairwise}
use Rattle.voting.proofs.Laws.Header.{alike-bytes}
use Rattle.voting.proofs.Laws.Tally.{tally-counts}
use Rattle.voting.proofs.Laws.Table.{lookup-known, lookup-update-same, lookup-update-other}
use Rattle.voting.proofs.Laws.Step.{Size, sized}
use Rattle.voting.proofs.Laws.Ordinary.{by-vote, voted-carries, ordinary-stays-read}
use Rattle.voting.proofs.Laws.Boundary.{passes}
use Rattle.voting.proofs.Laws.Order.{Separate, separate}
use Rattle.voting.proofs.Laws.Seeded.{tally-consistent}

is_known : (q : ℕ) → q < 9 → (m : ℕ) → m ≡ suc q → known m ≡ true
unfolding known
is_known q h m e = rw (le-leb 1 m (omega arith), le-leb m 9 (omega arith))

none-approved : (g : VotingConfig) → change_approved g 0 ≡ false
unfolding change_approved
none-approved g = le-ltb (voting_length g / 2) 0 (omega arith)

-- ---- what the votes make of one parameter

module _ (g : VotingConfig) (q : ℕ) (z : ℤ) where
  -- the parameter q + 1 with the value z, by the votes for it, one way and the other, of which there are some only one way
  record Moved (up down : ℕ) (v : Value) : Type 0 where
    value : v ≡ Some (cond (change_approved g up) (raised (suc q) z) (cond (change_approved g down) (lowered (suc q) z) z))
    one_way : (up ≡ 0) ⊎ (down ≡ 0)

  abbrev By : List Entry → Value → Type 0
  By es v = Moved (first_count (pos (suc q)) es) (first_count (negsuc q) es) v

  -- entries for other parameters
  abbrev Other : Entry → Type 0
  Other e = parameter e.id ≡ suc q → ⊥

  none_of : (id : ℤ) → parameter id ≡ suc q → (es : List Entry) → Each Other es → first_count id es ≡ 0
  unfolding first_count
  none_of id i [] o = refl
  none_of id i (e ∷ es) o = rw (ne-eq_z e.id id (λ j. o.0 (ap parameter j ∙ i))) (none_of id i es o.1)

  elsewhere : (e : Entry) (es : List Entry) (v : Value) → Other e → By es v → By (e ∷ es) v
  unfolding first_count
  elsewhere e es v o h =
      let up = ne-eq_z e.id (pos (suc q)) (λ i. o (ap parameter i)) in
      let down = ne-eq_z e.id (negsuc q) (λ i. o (ap parameter i)) in
      rw (up, down) h

  -- an entry for it, before others
  abbrev vote : ℤ → ℕ → Entry
  vote id n = record { id = id; count = n }

  abbrev after : Entry → Value
  after e = Some (cond (counts g e) (moved e.id z) z)

  module _ (small : q < 9) (es : List Entry) (others : Each Other es) where
    up-here : (n : ℕ) → By (vote (pos (suc q)) n ∷ es) (after (vote (pos (suc q)) n))
    unfolding first_count counts eq_z moved
    up-here n =
        let d = none_of (negsuc q) refl es others in
        record {
          value = rw (lt-ltb (suc q) soft_fork_vote (omega arith), lt-ltb 0 (suc q) (omega arith), eq-eqb (suc q) (suc q) refl, d, none-approved g) refl;
          one_way = inr d;
        }

    down-here : (n : ℕ) → By (vote (negsuc q) n ∷ es) (after (vote (negsuc q) n))
    unfolding first_count counts eq_z moved
    down-here n =
        let u = none_of (pos (suc q)) refl es others in
        record { value = rw (eq-eqb q q refl, u, none-approved g) refl; one_way = inl u }

    here : (id : ℤ) (n : ℕ) → parameter id ≡ suc q → By (vote id n ∷ es) (after (vote id n))
    here (pos m) n i = subst (λ (j : ℕ). By (vote (pos j) n ∷ es) (after (vote (pos j) n))) (sym i) (up-here n)
    here (negsuc m) n i = subst (λ (j : ℕ). By (vote (negsuc j) n ∷ es) (after (vote (negsuc j) n))) (let e : q ≡ m = omega arith in e) (down-here n)

  -- one after another, from the table `from`
  module _ (small : q < 9) (from : Table) (old : lookup from (suc q) ≡ Some z) where
    voted-here : (e : Entry) (new t : Table) → parameter e.id ≡ suc q → lookup new (suc q) ≡ Some z → voted g from e new ≡ Ok t
        → lookup t (suc q) ≡ after e
    voted-here e new t i h =
        by-vote (λ f. f new ≡ Ok t → lookup t (suc q) ≡ after e) g from e
        (λ c r. let j : new ≡ t = cc in rw c (rw j at h)) (λ c k r. absurd cc) (λ c k l r. absurd cc)
        (λ y c k l r.
        let j : update new (parameter e.id) (Some (moved e.id y)) ≡ t = cc in
        rw c (rw j at (written y (sym (ap (lookup from) (sym i) ∙ l) ∙ old))))
      where
        written : (y : ℤ) → Some y ≡ Some z → lookup (update new (parameter e.id) (Some (moved e.id y))) (suc q) ≡ Some (moved e.id z)
        written y p =
            subst (λ (m : ℕ). lookup (update new m (Some (moved e.id y))) (suc q) ≡ Some (moved e.id y)) (sym i)
            (lookup-update-same new (suc q) (Some (moved e.id y)) z (is_known q small (suc q) refl) h)
            ∙ ap (λ (x : ℤ). Some (moved e.id x)) (let s : y ≡ z = cc in s)

    voted-other : (e : Entry) (new t : Table) → Other e → lookup new (suc q) ≡ Some z → voted g from e new ≡ Ok t → lookup t (suc q) ≡ Some z
    voted-other e new t o =
        voted-carries (λ t. lookup t (suc q) ≡ Some z) g from e new t (λ c k t y h. lookup-update-other t (parameter e.id) (suc q) y (λ i. o (sym i)) ∙ h)

    -- the entries behind one for the parameter are for others
    rest-other : (e : Entry) (es : List Entry) → parameter e.id ≡ suc q → Each (Separate e) es → Each Other es
    rest-other e es i = each (Separate e) Other (λ x s j. s.0 (is_known q small (parameter e.id) i) (is_known q small (parameter x.id) j) (i ∙ sym j)) es

    votes-move : (es : List Entry) → Pairwise Separate es → (new t : Table) → lookup new (suc q) ≡ Some z → ordinary_votes g from es new ≡ Ok t
        → By es (lookup t (suc q))
    unfolding ordinary_votes first_count
    votes-move [] s new t h r = let j : new ≡ t = cc in record { value = rw j at h ∙ rw (none-approved g); one_way = inl refl }
    votes-move (e ∷ es) s new t h r =
        let o = then_ok (voted g from e new) (ordinary_votes g from es) r in
        by-test (eqb (parameter e.id) (suc q))
        (λ i.
        let p = eqb-true (parameter e.id) (suc q) i in
        let others = rest-other e es p s.0 in
        subst (By (e ∷ es)) (sym (ordinary-stays-read g from o.0 t es (suc q) others o.2 ∙ voted-here e new o.0 p h o.1)) (here small es others e.id e.count p))
        (λ i.
        let other = eqb-false (parameter e.id) (suc q) i in
        elsewhere e es (lookup t (suc q)) other (votes-move es s.1 o.0 t (voted-other e new o.0 other h o.1) o.2))

-- ---- the boundary

-- other fork entries leave the ordinary ones
fork-apart : (t : Table) (f : Fork) (p : ℕ) → known p ≡ true → lookup (with_fork t f) p ≡ lookup t p
fork-apart t f p k = lookup-known (with_fork t f) p k ∙ sym (lookup-known t p k)

-- entry 9 is not made where it is
subblocks-apart : (off : Bool) (t : Table) (p : ℕ) (y : ℤ) → lookup t p ≡ Some y → lookup (with_subblocks off t) p ≡ Some y
unfolding with_subblocks is_absent
subblocks-apart off t p y h = go (is_number (lookup t 123) (pos 4) && is_absent (lookup t 9) && not off) refl
  where
    four : Bool
    four = is_number (lookup t 123) (pos 4)

    there : p ≡ 9 → is_absent (lookup t 9) ≡ false
    there e = ap is_absent (ap (lookup t) (sym e) ∙ h)

    go : (b : Bool) → (four && is_absent (lookup t 9) && not off) ≡ b → lookup (cond b (update t 9 (Some (pos 30))) t) p ≡ Some y
    go true e =
        let absent = (both four (is_absent (lookup t 9)) (both (four && is_absent (lookup t 9)) (not off) e).0).1 in
        lookup-update-other t 9 p (Some (pos 30)) (λ q. true≢false (sym absent ∙ there q)) ∙ h
    go false e = h

module _ (g : VotingConfig) (height : ℕ) (t : Table) (tally : List Entry) (vote disables : Bool) (consistent : Consistent tally) (q : ℕ) (small : q < 9) (z : ℤ)
    (old : lookup t (suc q) ≡ Some z) where
  boundary-moves : (b : Boundary) → boundary_of g height t tally vote disables ≡ Ok b → By g q z tally (lookup b.table (suc q))
  boundary-moves b e =
      let p = passes g height t tally vote disables b e in
      let from = with_fork t p.part.fork in
      let h : lookup from (suc q) ≡ Some z = fork-apart t p.part.fork (suc q) (is_known q small (suc q) refl) ∙ old in
      let m = votes-move g q z small from h tally (pairwise Compatible Separate separate tally consistent) from p.voted h p.votes-pass in
      record {
        value = ap (λ (x : Table). lookup x (suc q)) p.new-table ∙ subblocks-apart _ p.voted (suc q) _ m.value;
        one_way = m.one_way;
      }

-- ---- a step is never nothing, so that the new value says which way it went

adds : (z : ℤ) (l : ℕ) → z +ℤ pos (suc l) ≡ z → ⊥
adds z l e =
    let s : pos (suc l) ≡ pos 0 = sym (+ℤ-neg_ℤ_cancel (pos (suc l)) z) ∙ ap (λ (x : ℤ). x -ℤ z) (+ℤ_comm (pos (suc l)) z ∙ e) ∙ +ℤ_invr z in
    let n : suc l ≡ 0 = cc in omega arith

module _ (z s : ℤ) (size : Size z s) where
  up-moves : z +ℤ s ≡ z → ⊥
  up-moves e = adds z size.less (ap (λ (x : ℤ). z +ℤ x) (sym size.is) ∙ e)

  down-moves : z -ℤ s ≡ z → ⊥
  down-moves e = up-moves (ap (λ (x : ℤ). x +ℤ s) (sym e) ∙ -ℤ-+ℤ_cancel z s)

  ways-differ : z +ℤ s ≡ z -ℤ s → ⊥
  ways-differ e =
      let l = size.less in
      let d : pos (suc (l + suc l)) ≡ s +ℤ s = ap pos (let n : suc (l + suc l) ≡ suc l + suc l = omega arith in n) ∙ ap (λ (x : ℤ). x +ℤ x) (sym size.is) in
      adds z (l + suc l) (ap (λ (x : ℤ). z +ℤ x) d ∙ sym (+ℤ_assoc z s s) ∙ ap (λ (x : ℤ). x +ℤ s) e ∙ -ℤ-+ℤ_cancel z s)

  -- the new value by four tests: up and down are approved, z is below its greatest and above its least value
  abbrev became : (up down below above : Bool) → ℤ
  became up down below above = cond up (cond below (z +ℤ s) z) (cond down (cond above (z -ℤ s) z) z)

  went_up : (up down below above : Bool) → became up down below above ≡ z +ℤ s → (below ≡ true) × (up ≡ true)
  went_up true down true above e = (refl, refl)
  went_up true down false above e = absurd (up-moves (sym e))
  went_up false true below true e = absurd (ways-differ (sym e))
  went_up false true below false e = absurd (up-moves (sym e))
  went_up false false below above e = absurd (up-moves (sym e))

  went_down : (up down below above : Bool) → became up down below above ≡ z -ℤ s → (above ≡ true) × (down ≡ true)
  went_down true down true above e = absurd (ways-differ e)
  went_down true down false above e = absurd (down-moves (sym e))
  went_down false true below true e = (refl, refl)
  went_down false true below false e = absurd (down-moves (sym e))
  went_down false false below above e = absurd (down-moves (sym e))

  goes_down : (up down below above : Bool) → (up ≡ true → down ≡ true → ⊥) → above ≡ true → down ≡ true → became up down below above ≡ z -ℤ s
  goes_down true down below above never a d = absurd (never refl d)
  goes_down false down below above never a d = rw (a, d)

  stays-there : (up down below above : Bool) → (below ≡ true → up ≡ true → ⊥) → (above ≡ true → down ≡ true → ⊥) → became up down below above ≡ z
  stays-there true down true above not-up not-down = absurd (not-up refl refl)
  stays-there true down false above not-up not-down = refl
  stays-there false true below true not-up not-down = absurd (not-down refl refl)
  stays-there false true below false not-up not-down = refl
  stays-there false false below above not-up not-down = refl

number : (x y : ℤ) → Some x ≡ Some y → x ≡ y
number x y e = cc

step_is : (g : VotingConfig) (epoch : List ℕ) (q : ℕ) (z : ℤ) (new : Value) → Moved g q z (counted_for (suc q) epoch) (counted_for (256 - suc q) epoch) new
    → Step (voting_length g / 2) epoch (suc q) z new
unfolding raised lowered change_approved
step_is g epoch q z new m =
    record {
      up = (
        λ e. (let r = went_up z s size a b c d (number _ _ (sym is ∙ e)) in (r.0, ltb-true half ups r.1)),
        λ u. is ∙ ap Some (rw (u.0, lt-ltb half ups u.1)),
      );
      down = (
        λ e. (let r = went_down z s size a b c d (number _ _ (sym is ∙ e)) in (r.0, ltb-true half downs r.1)),
        λ u. is ∙ ap Some (goes_down z s size a b c d never u.0 (lt-ltb half downs u.1)),
      );
      not-both = λ u w. one u.1 w.1;
      stays = λ u w. is ∙ ap Some (stays-there z s size a b c d (λ i j. u (i, ltb-true half ups j)) (λ i j. w (i, ltb-true half downs j)));
    }
  where
    half : ℕ
    half = voting_length g / 2

    s : ℤ
    s = step_of (suc q) z

    size : Size z s
    size = sized (suc q) z s refl

    ups : ℕ
    ups = counted_for (suc q) epoch

    downs : ℕ
    downs = counted_for (256 - suc q) epoch

    a : Bool
    a = ltb half ups

    b : Bool
    b = ltb half downs

    c : Bool
    c = lt_z z (greatest_of (suc q))

    d : Bool
    d = lt_z (least_of (suc q)) z

    is : new ≡ Some (became z s size a b c d)
    is = m.value

    one : half < ups → half < downs → ⊥
    one u w = none m.one_way
      where
        none : (ups ≡ 0) ⊎ (downs ≡ 0) → ⊥
        none (inl e) = omega arith
        none (inr e) = omega arith

    never : a ≡ true → b ≡ true → ⊥
    never i j = one (ltb-true half ups i) (ltb-true half downs j)

-- ---- with what was counted

up-id : (q : ℕ) → q < 9 → signed_of 8 (suc q) ≡ pos (suc q)
unfolding signed_of
up-id q h = rw (lt-ltb (suc q) 128 (omega arith))

down-id : (q : ℕ) → q < 9 → signed_of 8 (256 - suc q) ≡ negsuc q
unfolding signed_of
down-id q h = rw (le-ltb (256 - suc q) 128 (omega arith)) (ap negsuc (let e : 256 - suc (256 - suc q) ≡ q = omega arith in e))

pub boundary-steps : (g : VotingConfig) (height : ℕ) (t : Table) (epoch : List ℕ) (vote disables : Bool) → Bytes epoch → whole epoch ≡ epoch → AllLegal (headers epoch)
    → (after : Boundary) → boundary_of g height t (entries (seeded epoch)) vote disables ≡ Ok after → Stepped (voting_length g / 2) epoch t after.table
boundary-steps g height t epoch vote disables b w l after e zero low high z old = absurd (omega arith)
boundary-steps g height t epoch vote disables b w l after e (suc q) low high z old =
    let small : q < 9 = omega arith in
    let tally = entries (seeded epoch) in
    let new = lookup after.table (suc q) in
    let counted : (v : ℕ) → (v ≡ 0 → ⊥) → v < 256 → first_count (signed_of 8 v) tally ≡ counted_for v epoch =
    λ v n h. tally-counts v n epoch w (alike-bytes v h epoch b) l in
    step_is g epoch q z new
    (subst₂ (λ (m n : ℕ). Moved g q z m n new)
    (ap (λ (v : ℤ). first_count v tally) (sym (up-id q small)) ∙ counted (suc q) (λ i. omega arith) (omega arith))
    (ap (λ (v : ℤ). first_count v tally) (sym (down-id q small)) ∙ counted (256 - suc q) (λ i. omega arith) (omega arith))
    (boundary-moves g height t tally vote disables (tally-consistent epoch b l) q small z old after e))
