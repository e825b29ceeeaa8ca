-- A tally in another order: the votes, the count for the fork, and the boundary.
-- Assumes nothing.
use Rattle.std.proofs.Common.{◌≡◌, ℕ, suc, ◌<◌, Bool, true, false, cond, ◌&&◌, List, ◌∷◌, ℤ, pos, negsuc, sym, refl, ap, ◌∙◌, subst, subst₂, inl, inr, arith, w8}
use mathlib.Core.List.{Permᴰ}
use Rattle.codec.specs.declared.refusal.Refusal.TheVariants.{UnknownParameter, AbsentParameter}
use Rattle.codec.proofs.Laws.Signed.{wraps-to}
use Rattle.voting.specs.declared.settings.VotingConfig.{VotingConfig}
use Rattle.voting.specs.Value.{Value}
use Rattle.std.specs.Prelude.{Some, Result, Ok, Err}
use Rattle.codec.specs.declared.refusal.Refusal.{Refusal}
use Rattle.codec.specs.Check.{and_then}
use Rattle.voting.specs.declared.table.Table.{Table}
use Rattle.voting.specs.declared.tally.Entry.{Entry}
use Rattle.voting.specs.declared.fork.ForkPart.{ForkPart}
use Rattle.voting.specs.declared.boundary.Boundary.{Boundary}
use Rattle.voting.specs.Common.{eq_z, Each, Pairwise}
use Rattle.voting.specs.Table.{with_fork, update}
use Rattle.voting.specs.Header.{negation, soft_fork_vote}
use Rattle.voting.specs.Tally.{first_count}
use Rattle.voting.specs.ForkPart.{fork_part}
use Rattle.voting.specs.Ordinary.{parameter, moved, known, voted, ordinary_votes}
use Rattle.voting.specs.Boundary.{with_subblocks, boundary_of, goes_on}
use Rattle.voting.specs.Order.{Compatible, Consistent, NoParameter, Alike}
use Rattle.voting.proofs.Laws.Integers.{eq_z-true}
use Rattle.voting.proofs.Laws.Each.{pairwise}
use Rattle.voting.proofs.Laws.Table.{known-range, update_comm}
use Rattle.voting.proofs.Laws.Ordinary.{by-vote}
use Rattle.voting.proofs.Laws.Tests.{then-stop, then-pass}

-- ---- statements of every two elements, in another order

module _ {A : Type 0} where
  each-moved : (P : A → Type 0) {xs ys : List A} → Permᴰ xs ys → Each P xs → Each P ys
  each-moved P Permᴰ.nil h = h
  each-moved P (Permᴰ.cons e d) h = (subst P e h.0, each-moved P d h.1)
  each-moved P (Permᴰ.swap e f) h = (subst P f h.1.0, (subst P e h.0, h.1.1))
  each-moved P (Permᴰ.trans d f) h = each-moved P f (each-moved P d h)

  pairwise-moved : (R : A → A → Type 0) → ((x y : A) → R x y → R y x) → {xs ys : List A} → Permᴰ xs ys → Pairwise R xs → Pairwise R ys
  pairwise-moved R turned Permᴰ.nil h = h
  pairwise-moved R turned (Permᴰ.cons {a} {b} {l₁} {l₂} e d) h =
      (subst (λ (x : A). Each (R x) l₂) e (each-moved (R a) d h.0), pairwise-moved R turned d h.1)
  pairwise-moved R turned (Permᴰ.swap {a} {b} {a'} {b'} {l} e f) h = (
    (subst (λ (x : A). R x b') f (subst (R b) e (turned a b h.0.0)), subst (λ (x : A). Each (R x) l) f h.1.0),
    (subst (λ (x : A). Each (R x) l) e h.0.1, h.1.1),
  )
  pairwise-moved R turned (Permᴰ.trans d f) h = pairwise-moved R turned f (pairwise-moved R turned d h)

-- ---- compatible entries write two parameters, and one of them at most is for the fork

abbrev pub Separate : Entry → Entry → Type 0
Separate a b =
    (known (parameter a.id) ≡ true → known (parameter b.id) ≡ true → parameter a.id ≡ parameter b.id → ⊥)
    × (a.id ≡ pos soft_fork_vote → b.id ≡ pos soft_fork_vote → ⊥)

turned : (a b : Entry) → Separate a b → Separate b a
turned a b s = (λ p q e. s.0 q p (sym e), λ p q. s.1 q p)

-- the negation of the id of a parameter
negation-up : (n : ℕ) → n < 9 → negation (negsuc n) ≡ pos (suc n)
unfolding negation
negation-up n h = wraps-to w8 (pos (suc n)) (record { sfits = omega arith })

negation-down : (n : ℕ) → n < 9 → negation (pos (suc n)) ≡ negsuc n
unfolding negation
negation-down n h = wraps-to w8 (negsuc n) (record { sfits = omega arith })

-- ids for one parameter are equal or negations
one-parameter : (a b : ℤ) → known (parameter b) ≡ true → parameter a ≡ parameter b → (a ≡ b → ⊥) → (a ≡ negation b → ⊥) → ⊥
one-parameter (pos m) (pos n) k e p q = p (ap pos e)
one-parameter (pos m) (negsuc n) k e p q = let r = known-range (suc n) k in q (ap pos e ∙ sym (negation-up n (omega arith)))
one-parameter (negsuc m) (pos n) k e p q =
    let r = known-range n k in
    q (sym (negation-down m (omega arith)) ∙ ap (λ (i : ℕ). negation (pos i)) e)
one-parameter (negsuc m) (negsuc n) k e p q = p (ap negsuc (let f : m ≡ n = omega arith in f))

pub separate : (a b : Entry) → Compatible a b → Separate a b
separate a b c = (λ p k e. one-parameter a.id b.id k e c.0 c.1, λ p q. c.0 (p ∙ sym q))

-- ---- what an entry does, whatever the table so far: it leaves it, writes its parameter, or is refused by 13 or 14

data Write (id : ℤ) : Type 0 where
  nothing : Write id
  one : Value → known (parameter id) ≡ true → Write id

abbrev written : {id : ℤ} → Write id → Table → Table
written nothing t = t
written {id} (one v k) t = update t (parameter id) v

data Act (id : ℤ) (f : Table → Result Table Refusal) : Type 0 where
  goes : (w : Write id) → ((t : Table) → f t ≡ Ok (written w t)) → Act id f
  halts : (n : Refusal) → NoParameter n → ((t : Table) → f t ≡ Err n) → Act id f

act : (g : VotingConfig) (from : Table) (e : Entry) → Act e.id (voted g from e)
act g from e =
    by-vote (Act e.id) g from e (λ c. goes nothing (λ t. refl)) (λ c k. halts UnknownParameter (inl refl) (λ t. refl))
    (λ c k l. halts AbsentParameter (inr refl) (λ t. refl)) (λ z c k l. goes (one (Some (moved e.id z)) k) (λ t. refl))

-- two entries that write two parameters, in either order
writes-comm : (a b : Entry) → Separate a b → (w : Write a.id) (u : Write b.id) (t : Table) → written u (written w t) ≡ written w (written u t)
writes-comm a b s nothing u t = refl
writes-comm a b s (one v k) nothing t = refl
writes-comm a b s (one v k) (one y l) t = update_comm t (parameter a.id) (parameter b.id) v y k l (s.0 k l)

-- ---- the votes

module _ {A : Type 0} where
  pub alike_equal : (u v : Result A Refusal) → u ≡ v → Alike u v
  alike_equal (Ok x) v e = subst (Alike (Ok x)) e refl
  alike_equal (Err d) v e = subst (Alike (Err d)) e (inl refl)

  pub alike_halted : (u v : Result A Refusal) (n m : Refusal) → NoParameter n → NoParameter m → u ≡ Err n → v ≡ Err m → Alike u v
  alike_halted u v n m p q d e = rw (d, e) (inr (p, q))

  pub alike_then : (u v w : Result A Refusal) → Alike u v → Alike v w → Alike u w
  alike_then (Ok x) (Ok y) (Ok z) p q = p ∙ q
  alike_then (Ok x) (Ok y) (Err e) p q = absurd q
  alike_then (Ok x) (Err e) w p q = absurd p
  alike_then (Err d) (Ok y) w p q = absurd p
  alike_then (Err d) (Err e) (Ok z) p q = absurd q
  alike_then (Err d) (Err e) (Err h) (inl p) (inl q) = inl (p ∙ q)
  alike_then (Err d) (Err e) (Err h) (inl p) (inr q) = inr (subst NoParameter (sym p) q.0, q.1)
  alike_then (Err d) (Err e) (Err h) (inr p) (inl q) = inr (p.0, subst NoParameter q p.1)
  alike_then (Err d) (Err e) (Err h) (inr p) (inr q) = inr (p.0, q.1)

-- what follows alike answers is alike
pub then-alike : {A B : Type 0} (u v : Result A Refusal) (k l : A → Result B Refusal) → Alike u v → ((x : A) → Alike (k x) (l x)) → Alike (and_then u k) (and_then v l)
then-alike (Ok x) (Ok y) k l p h = subst (λ z. Alike (k x) (l z)) p (h x)
then-alike (Ok x) (Err e) k l p h = absurd p
then-alike (Err d) (Ok y) k l p h = absurd p
then-alike (Err d) (Err e) k l p h = p

module _ (g : VotingConfig) (from : Table) where
  -- an entry that goes on, and one that is refused
  head-goes : (e : Entry) (es : List Entry) (new t : Table) → voted g from e new ≡ Ok t → ordinary_votes g from (e ∷ es) new ≡ ordinary_votes g from es t
  unfolding ordinary_votes
  head-goes e es new t p = then-pass (voted g from e new) (ordinary_votes g from es) p

  head-halts : (e : Entry) (es : List Entry) (new : Table) (n : Refusal) → voted g from e new ≡ Err n → ordinary_votes g from (e ∷ es) new ≡ Err n
  unfolding ordinary_votes
  head-halts e es new n p = then-stop (voted g from e new) (ordinary_votes g from es) p

  -- one entry before two lists
  head-same : (e : Entry) (xs ys : List Entry) (new : Table) → ((t : Table) → Alike (ordinary_votes g from xs t) (ordinary_votes g from ys t))
      → Alike (ordinary_votes g from (e ∷ xs) new) (ordinary_votes g from (e ∷ ys) new)
  head-same e xs ys new h = go (act g from e)
    where
      go : Act e.id (voted g from e) → Alike (ordinary_votes g from (e ∷ xs) new) (ordinary_votes g from (e ∷ ys) new)
      go (goes w p) =
          let t = written w new in
          subst₂ Alike (sym (head-goes e xs new t (p new))) (sym (head-goes e ys new t (p new))) (h t)
      go (halts n u p) = alike_equal _ _ (head-halts e xs new n (p new) ∙ sym (head-halts e ys new n (p new)))

  -- two neighbours exchanged
  heads-exchanged : (a b : Entry) (l : List Entry) (new : Table) → Separate a b → Alike (ordinary_votes g from (a ∷ b ∷ l) new) (ordinary_votes g from (b ∷ a ∷ l) new)
  heads-exchanged a b l new s = go (act g from a) (act g from b)
    where
      go : Act a.id (voted g from a) → Act b.id (voted g from b) → Alike (ordinary_votes g from (a ∷ b ∷ l) new) (ordinary_votes g from (b ∷ a ∷ l) new)
      go (goes w p) (goes u q) =
          let x = written w new in
          let y = written u new in
          alike_equal _ _
          (head-goes a (b ∷ l) new x (p new) ∙ head-goes b l x (written u x) (q x)
          ∙ ap (ordinary_votes g from l) (writes-comm a b s w u new)
          ∙ sym (head-goes b (a ∷ l) new y (q new) ∙ head-goes a l y (written w y) (p y)))
      go (goes w p) (halts n u q) =
          let x = written w new in
          alike_halted _ _ n n u u (head-goes a (b ∷ l) new x (p new) ∙ head-halts b l x n (q x)) (head-halts b (a ∷ l) new n (q new))
      go (halts n u p) (goes w q) =
          let y = written w new in
          alike_halted _ _ n n u u (head-halts a (b ∷ l) new n (p new)) (head-goes b (a ∷ l) new y (q new) ∙ head-halts a l y n (p y))
      go (halts n u p) (halts m w q) = alike_halted _ _ n m u w (head-halts a (b ∷ l) new n (p new)) (head-halts b (a ∷ l) new m (q new))

  votes-alike : {xs ys : List Entry} → Permᴰ xs ys → Pairwise Separate xs → (new : Table) → Alike (ordinary_votes g from xs new) (ordinary_votes g from ys new)
  votes-alike Permᴰ.nil h new = alike_equal _ _ refl
  votes-alike (Permᴰ.cons {a} {b} {l₁} {l₂} e d) h new =
      subst (λ (x : Entry). Alike (ordinary_votes g from (a ∷ l₁) new) (ordinary_votes g from (x ∷ l₂) new)) e
      (head-same a l₁ l₂ new (votes-alike d h.1))
  votes-alike (Permᴰ.swap {a} {b} {a'} {b'} {l} e f) h new =
      subst₂ (λ (x y : Entry). Alike (ordinary_votes g from (a ∷ b ∷ l) new) (ordinary_votes g from (x ∷ y ∷ l) new)) f e
      (heads-exchanged a b l new h.0.0)
  votes-alike (Permᴰ.trans {l₁} {l₂} {l₃} d f) h new =
      alike_then (ordinary_votes g from l₁ new) (ordinary_votes g from l₂ new) (ordinary_votes g from l₃ new)
      (votes-alike d h new) (votes-alike f (pairwise-moved Separate turned d h) new)

-- ---- the count for the fork

abbrev fork_count : List Entry → ℕ
fork_count = first_count (pos soft_fork_vote)

count-exchanged : (a b : Entry) (l : List Entry) → Separate a b → fork_count (a ∷ b ∷ l) ≡ fork_count (b ∷ a ∷ l)
unfolding first_count
count-exchanged a b l s = go (eq_z a.id (pos soft_fork_vote)) refl (eq_z b.id (pos soft_fork_vote)) refl
  where
    go : (x : Bool) → eq_z a.id (pos soft_fork_vote) ≡ x → (y : Bool) → eq_z b.id (pos soft_fork_vote) ≡ y
        → cond x a.count (cond y b.count (fork_count l)) ≡ cond y b.count (cond x a.count (fork_count l))
    go true p true q = absurd (s.1 (eq_z-true a.id (pos soft_fork_vote) p) (eq_z-true b.id (pos soft_fork_vote) q))
    go true p false q = refl
    go false p y q = refl

count_head : (e : Entry) (xs ys : List Entry) → fork_count xs ≡ fork_count ys → fork_count (e ∷ xs) ≡ fork_count (e ∷ ys)
unfolding first_count
count_head e xs ys q = ap (cond (eq_z e.id (pos soft_fork_vote)) e.count) q

count_same : {xs ys : List Entry} → Permᴰ xs ys → Pairwise Separate xs → fork_count xs ≡ fork_count ys
count_same Permᴰ.nil h = refl
count_same (Permᴰ.cons {a} {b} {l₁} {l₂} e d) h = count_head a l₁ l₂ (count_same d h.1) ∙ ap (λ (x : Entry). fork_count (x ∷ l₂)) e
count_same (Permᴰ.swap {a} {b} {a'} {b'} {l} e f) h =
    subst₂ (λ (x y : Entry). fork_count (a ∷ b ∷ l) ≡ fork_count (x ∷ y ∷ l)) f e (count-exchanged a b l h.0.0)
count_same (Permᴰ.trans d f) h = count_same d h ∙ count_same f (pairwise-moved Separate turned d h)

-- ---- the boundary

module _ (g : VotingConfig) (height : ℕ) (t : Table) {xs ys : List Entry} (d : Permᴰ xs ys) (h : Pairwise Separate xs) (vote disables : Bool) where
  -- after the fork part
  abbrev after_part : List Entry → ForkPart → Result Boundary Refusal
  after_part tally part =
      and_then (ordinary_votes g (with_fork t part.fork) tally (with_fork t part.fork))
      (λ new. Ok (record { table = with_subblocks (part.round.rose && disables) new; round = part.round }))

  after-part-alike : (part : ForkPart) → Alike (after_part xs part) (after_part ys part)
  after-part-alike part = let from = with_fork t part.fork in then-alike _ _ _ _ (votes-alike g from d h from) (λ new. refl)

  separate-same : Alike (boundary_of g height t xs vote disables) (boundary_of g height t ys vote disables)
  unfolding boundary_of
  separate-same =
      let part = λ (n : ℕ). fork_part g height vote n t.fork in
      subst (λ (n : ℕ). Alike (boundary_of g height t xs vote disables) (and_then (part n) (after_part ys))) (count_same d h)
      (then-alike (part (fork_count xs)) (part (fork_count xs)) (after_part xs) (after_part ys) (alike_equal _ _ refl) after-part-alike)

pub boundary-same : (g : VotingConfig) (height : ℕ) (t : Table) {xs ys : List Entry} → Permᴰ xs ys → Consistent xs → (vote disables : Bool)
    → Alike (boundary_of g height t xs vote disables) (boundary_of g height t ys vote disables)
boundary-same g height t {xs} {ys} d h vote disables = separate-same g height t d (pairwise Compatible Separate separate xs h) vote disables

-- what goes on after alike answers is the same: where both are refused, the old table
pub goes-on-same : (t : Table) (x y : Result Boundary Refusal) → Alike x y → goes_on t x ≡ goes_on t y
unfolding goes_on
goes-on-same t (Ok a) (Ok b) p = p
goes-on-same t (Ok a) (Err e) p = absurd p
goes-on-same t (Err d) (Ok b) p = absurd p
goes-on-same t (Err d) (Err e) p = refl

pub boundary-goes-on-same : (g : VotingConfig) (height : ℕ) (t : Table) {xs ys : List Entry} → Permᴰ xs ys → Consistent xs → (vote disables : Bool)
    → goes_on t (boundary_of g height t xs vote disables) ≡ goes_on t (boundary_of g height t ys vote disables)
boundary-goes-on-same g height t {xs} {ys} d h vote disables =
    goes-on-same t (boundary_of g height t xs vote disables) (boundary_of g height t ys vote disables) (boundary-same g height t d h vote disables)
