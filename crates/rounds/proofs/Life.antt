-- A round's life in the book: what it has counted after so many epochs, and when it closes.
-- Assumes nothing.
use mathlib.Core.Path.{◌≡◌, refl, sym, ap, ◌∙◌, subst, subst₂}
use mathlib.Core.Bool.{Bool, true, false, not, cond, ◌&&◌, ◌||◌, true≢false}
use mathlib.Core.List.{List, [], ◌∷◌}
use Prim.Native.Nat.{ℕ, suc, ◌+◌, ◌*◌, ◌-◌, ◌<◌, ◌≤◌, min}
use native.Mathlib.Omega.{arith}
use native.Mathlib.Nat.{mul-pos}
use borrow.Author.Tests.{not-true, ltb-true, ltb-false, leb-true, leb-false, eqb-true, eqb-false, lt-leb}
use lib.Dec.{leb, ltb, eqb}
use lib.ListN.{length}
use Rattle.voting.proofs.Laws.Tests.{by-test, both, neither, or_elim}
use Rattle.voting.specs.declared.settings.VotingConfig.{VotingConfig}
use Rattle.voting.specs.Settings.{voting_length, vote_epochs, activation_epochs, fork_limit}
use Rattle.rounds.specs.Epochs.{boundary_votes, counted}
use Rattle.rounds.specs.Book.{Round, idle, since, Book, epochs_since, book_add, book_close, book_open, book_take}
use Rattle.rounds.specs.Claim.{Sound, total}
use Rattle.rounds.proofs.Scaled.{epoch-is}
use Rattle.rounds.proofs.BookAt.{close_at}

-- the book over accepted epochs, the first of them at height h
unfoldable pub book_epochs : VotingConfig → Book → ℕ → List (List ℕ) → Book
book_epochs g b h [] = b
book_epochs g b h (x ∷ es) = book_epochs g (book_take g b h x) (h + voting_length g) es

-- the round that is open, if any, started after S
abbrev pub Later : ℕ → Round → Type 0
Later S idle = Unit {0}
Later S (since s n) = S < s

-- and so it stays
module _ (g : VotingConfig) (sound : Sound g) (S : ℕ) where
  add-later : (h c : ℕ) (r : Round) → Later S r → Later S (book_add g h c r)
  unfolding book_add
  add-later h c idle k = tt
  add-later h c (since s n) k = k

  close-later : (h : ℕ) (r : Round) → Later S r → Later S (book_close g h r)
  unfolding book_close
  close-later h idle k = tt
  close-later h (since s n) k = go ((eqb (epochs_since g s h) (vote_epochs g + 1) && not (ltb (fork_limit g) n)) || eqb (epochs_since g s h) (vote_epochs g + activation_epochs g + 1))
    where
      go : (t : Bool) → Later S (cond t idle (since s n))
      go true = tt
      go false = k

  open-later : (h : ℕ) (vote : Bool) (r : Round) → S < h → Later S r → Later S (book_open h vote r)
  unfolding book_open
  open-later h true idle l k = l
  open-later h false idle l k = tt
  open-later h vote (since s n) l k = k

  take-later : (b : Book) (h : ℕ) (x : List ℕ) → S < h → Later S b.round → Later S (book_take g b h x).round
  unfolding book_take
  take-later b h x l k =
      open-later h (boundary_votes x) (book_close g h (book_add g h (counted b.before) b.round)) l
      (close-later h (book_add g h (counted b.before) b.round) (add-later h (counted b.before) b.round k))

  stay-later : (es : List (List ℕ)) (b : Book) (h : ℕ) → S < h → Later S b.round → Later S (book_epochs g b h es).round
  unfolding book_epochs
  stay-later [] b h l k = k
  stay-later (x ∷ es) b h l k = stay-later es (book_take g b h x) (h + voting_length g) (omega arith) (take-later b h x l k)

-- before the boundary S + L·j: n votes collected, p the epoch before
abbrev pub sum_to : VotingConfig → ℕ → ℕ → List (List ℕ) → ℕ
sum_to g j n es = n + total (vote_epochs g + 1 - j) es

abbrev pub end_of : VotingConfig → ℕ → ℕ → List (List ℕ) → ℕ
end_of g j n es = cond (ltb (fork_limit g) (sum_to g j n es)) (vote_epochs g + activation_epochs g + 1) (vote_epochs g + 1)

-- with the epoch before added where the round still collects
abbrev plus-at : VotingConfig → ℕ → ℕ → List ℕ → ℕ
plus-at g j n p = cond (leb j (vote_epochs g)) (n + counted p) n

total-0 : (es : List (List ℕ)) → total 0 es ≡ 0
unfolding total
total-0 es = refl

-- what is left to collect, one boundary on
sum-on : (g : VotingConfig) (j n i : ℕ) (p : List ℕ) (es : List (List ℕ))
    → plus-at g j n p + total (min i (vote_epochs g + 1 - (j + 1))) es ≡ n + total (min (suc i) (vote_epochs g + 1 - j)) (p ∷ es)
unfolding total
sum-on g j n i p es =
    by-test (leb j (vote_epochs g))
    (λ e.
    let le = leb-true j (vote_epochs g) e in
    let q : min (suc i) (vote_epochs g + 1 - j) ≡ suc (min i (vote_epochs g + 1 - (j + 1))) = omega arith in
    simp (e, q) (omega arith))
    (λ e.
    let gt = leb-false j (vote_epochs g) e in
    let q : min (suc i) (vote_epochs g + 1 - j) ≡ 0 = omega arith in
    let q' : min i (vote_epochs g + 1 - (j + 1)) ≡ 0 = omega arith in
    simp (e, q, q'))

sum-all : (g : VotingConfig) (j n : ℕ) (p : List ℕ) (es : List (List ℕ))
    → sum_to g (j + 1) (plus-at g j n p) es ≡ sum_to g j n (p ∷ es)
sum-all g j n p es =
    let a : min (vote_epochs g + 1) (vote_epochs g + 1 - (j + 1)) ≡ vote_epochs g + 1 - (j + 1) = omega arith in
    let b : min (suc (vote_epochs g + 1)) (vote_epochs g + 1 - j) ≡ vote_epochs g + 1 - j = omega arith in
    simp (a, b) at (sum-on g j n (vote_epochs g + 1) p es)

abbrev pub book_of : ℕ → Round → List ℕ → Book
book_of v r p = record { version = v; round = r; before = p }

abbrev closing : VotingConfig → ℕ → ℕ → Bool
closing g j m = (eqb j (vote_epochs g + 1) && not (ltb (fork_limit g) m)) || eqb j (vote_epochs g + activation_epochs g + 1)

abbrev pub LifeAt : VotingConfig → ℕ → ℕ → ℕ → List ℕ → List (List ℕ) → Round → Type 0
LifeAt g S j n p es r =
    (j + length es < end_of g j n (p ∷ es) + 1 → r ≡ since S (n + total (min (length es) (vote_epochs g + 1 - j)) (p ∷ es)))
    × (end_of g j n (p ∷ es) < j + length es → Later S r)

module _ (g : VotingConfig) (sound : Sound g) (S : ℕ) where
  add_is : (j n : ℕ) (p : List ℕ) → book_add g (S + voting_length g * j) (counted p) (since S n) ≡ since S (plus-at g j n p)
  unfolding book_add epochs_since
  add_is j n p = rw (epoch-is (voting_length g) S sound.length-positive j)

  -- the round after the boundary S + L·j
  round_is : (j n v : ℕ) (p x : List ℕ)
      → (book_take g (book_of v (since S n) p) (S + voting_length g * j) x).round
      ≡ book_open (S + voting_length g * j) (boundary_votes x) (cond (closing g j (plus-at g j n p)) idle (since S (plus-at g j n p)))
  unfolding book_take
  round_is j n v p x = simp (add_is, close_at g sound S j)

  -- past V nothing is added
  sum-late : (j n : ℕ) (es : List (List ℕ)) → vote_epochs g < j → sum_to g j n es ≡ n
  sum-late j n es gt =
      let z : vote_epochs g + 1 - j ≡ 0 = omega arith in
      simp (z, total-0) (let q : n + 0 ≡ n = omega arith in q)

  plus-late : (j n : ℕ) (p : List ℕ) → vote_epochs g < j → plus-at g j n p ≡ n
  plus-late j n p gt = simp (lt-leb j (vote_epochs g) gt)

  -- where it closes there, the end is there
  end-here : (j n : ℕ) (p : List ℕ) (es : List (List ℕ)) → (vote_epochs g + 1 < j → fork_limit g < n)
      → closing g j (plus-at g j n p) ≡ true → end_of g j n (p ∷ es) ≡ j
  end-here j n p es late e =
      or_elim (eqb j (vote_epochs g + 1) && not (ltb (fork_limit g) (plus-at g j n p))) (eqb j (vote_epochs g + activation_epochs g + 1)) e
      (λ a.
      let is = eqb-true j (vote_epochs g + 1) (both (eqb j (vote_epochs g + 1)) _ a).0 in
      let gt : vote_epochs g < j = omega arith in
      let low : ltb (fork_limit g) n ≡ false =
      rw (plus-late j n p gt) at (not-true (ltb (fork_limit g) (plus-at g j n p)) (both (eqb j (vote_epochs g + 1)) _ a).1)
      in
      rw (sum-late j n (p ∷ es) gt) (simp low (omega arith)))
      (λ b.
      let is = eqb-true j (vote_epochs g + activation_epochs g + 1) b in
      let gt : vote_epochs g < j = omega arith in
      rw (sum-late j n (p ∷ es) gt)
      (by-test (ltb (fork_limit g) n) (λ a. simp a (omega arith))
      (λ a.
      let le = ltb-false (fork_limit g) n a in
      simp a
      (by-test (ltb (vote_epochs g + 1) j)
      (λ t. let l = late (ltb-true (vote_epochs g + 1) j t) in absurd (let f : ⊥ = omega arith in f))
      (λ t. let m = ltb-false (vote_epochs g + 1) j t in omega arith)))))

  -- where it does not, it is later, and the round goes on as before
  not-over : (j n : ℕ) (p : List ℕ) → j ≤ vote_epochs g + activation_epochs g + 1 → (vote_epochs g + 1 < j → fork_limit g < n)
      → closing g j (plus-at g j n p) ≡ false
      → (j + 1 ≤ vote_epochs g + activation_epochs g + 1) × (vote_epochs g + 1 < j + 1 → fork_limit g < plus-at g j n p)
  not-over j n p last late e =
      let f = (neither (eqb j (vote_epochs g + 1) && not (ltb (fork_limit g) (plus-at g j n p))) (eqb j (vote_epochs g + activation_epochs g + 1)) e).0 in
      let ne =
      eqb-false j (vote_epochs g + activation_epochs g + 1)
      (neither (eqb j (vote_epochs g + 1) && not (ltb (fork_limit g) (plus-at g j n p))) (eqb j (vote_epochs g + activation_epochs g + 1)) e).1
      in (
        omega arith,
        λ gt.
            by-test (ltb (fork_limit g) (plus-at g j n p)) (ltb-true (fork_limit g) (plus-at g j n p))
            (λ a.
            by-test (eqb j (vote_epochs g + 1)) (λ b. absurd (true≢false (simp (b, a) at f)))
            (λ b.
            let nb = eqb-false j (vote_epochs g + 1) b in
            rw (plus-late j n p (omega arith)) (late (omega arith)))),
      )

  not_yet : (j n : ℕ) (p : List ℕ) → j ≤ vote_epochs g + activation_epochs g + 1 → (vote_epochs g + 1 < j → fork_limit g < n)
      → (es : List (List ℕ)) → j ≤ end_of g j n es
  not_yet j n p last late es =
      by-test (ltb (fork_limit g) (sum_to g j n es)) (λ e. simp e last)
      (λ e.
      let le = ltb-false (fork_limit g) (sum_to g j n es) e in
      simp e
      (by-test (ltb (vote_epochs g + 1) j)
      (λ t. let l = late (ltb-true (vote_epochs g + 1) j t) in absurd (let f : ⊥ = omega arith in f))
      (λ t. ltb-false (vote_epochs g + 1) j t)))

  -- the book after the boundary S + L·j, by what the closing test says
  took : (j n v : ℕ) (p x : List ℕ) (t : Bool) → closing g j (plus-at g j n p) ≡ t
      → book_take g (book_of v (since S n) p) (S + voting_length g * j) x
      ≡ book_of (book_take g (book_of v (since S n) p) (S + voting_length g * j) x).version
      (book_open (S + voting_length g * j) (boundary_votes x) (cond t idle (since S (plus-at g j n p)))) x
  unfolding book_take
  took j n v p x t e =
      let q = rw e at (round_is j n v p x) in
      λ i. record {
        version = (book_take g (book_of v (since S n) p) (S + voting_length g * j) x).version;
        round = q i;
        before = x;
      }

  -- the boundary S + L·j is after S
  pub past : (j : ℕ) → 0 < j → S < S + voting_length g * j
  past j h = let l = mul-pos sound.length-positive h in omega arith

  closes_here : (es : List (List ℕ)) (j n v' : ℕ) (p x : List ℕ) → 0 < j → (vote_epochs g + 1 < j → fork_limit g < n)
      → closing g j (plus-at g j n p) ≡ true
      → LifeAt g S j n p (x ∷ es)
      (book_epochs g (book_of v' (book_open (S + voting_length g * j) (boundary_votes x) idle) x) (S + voting_length g * j + voting_length g) es).round
  closes_here es j n v' p x positive late e =
      rw (end-here j n p (x ∷ es) late e) (
        λ lt. absurd (let f : ⊥ = omega arith in f),
        λ over. let l = past j positive in
            stay-later g sound S es (book_of v' (book_open (S + voting_length g * j) (boundary_votes x) idle) x) (S + voting_length g * j + voting_length g) (omega arith)
            (open-later g sound S (S + voting_length g * j) (boundary_votes x) idle l tt),
      )

  -- the claim at the next boundary is the claim here
  shift : (j n : ℕ) (p x : List ℕ) (es : List (List ℕ)) (r : Round)
      → LifeAt g S (j + 1) (plus-at g j n p) x es r → LifeAt g S j n p (x ∷ es) r
  shift j n p x es r l =
      let same : end_of g (j + 1) (plus-at g j n p) (x ∷ es) ≡ end_of g j n (p ∷ x ∷ es) =
      ap (λ (m : ℕ). cond (ltb (fork_limit g) m) (vote_epochs g + activation_epochs g + 1) (vote_epochs g + 1)) (sum-all g j n p (x ∷ es))
      in
      (λ lt. l.0 (omega arith) ∙ ap (since S) (sum-on g j n (length es) p (x ∷ es)), λ over. l.1 (omega arith))

  pub life : (es : List (List ℕ)) (j n v : ℕ) (p : List ℕ) → 0 < j → j ≤ vote_epochs g + activation_epochs g + 1
      → (vote_epochs g + 1 < j → fork_limit g < n)
      → LifeAt g S j n p es (book_epochs g (book_of v (since S n) p) (S + voting_length g * j) es).round
  unfolding book_epochs book_open
  life [] j n v p pos last late =
      let z : min 0 (vote_epochs g + 1 - j) ≡ 0 = omega arith in (
        λ lt. simp (z, total-0) (ap (since S) (let q : n ≡ n + 0 = omega arith in q)),
        λ over. absurd (let m = not_yet j n p last late (p ∷ []) in let f : ⊥ = omega arith in f),
      )
  life (x ∷ es) j n v p pos last late =
      let v' = (book_take g (book_of v (since S n) p) (S + voting_length g * j) x).version in
      by-test (closing g j (plus-at g j n p))
      (λ e.
      subst (λ (b : Book). LifeAt g S j n p (x ∷ es) (book_epochs g b (S + voting_length g * j + voting_length g) es).round)
      (sym (took j n v p x true e)) (closes_here es j n v' p x pos late e))
      (λ e.
      let more = not-over j n p last late e in
      let ih = life es (j + 1) (plus-at g j n p) v' x (omega arith) more.0 more.1 in
      let on : S + voting_length g * j + voting_length g ≡ S + voting_length g * (j + 1) = omega arith in
      shift j n p x es _
      (subst₂ (λ (b : Book) (h : ℕ). LifeAt g S (j + 1) (plus-at g j n p) x es (book_epochs g b h es).round)
      (sym (took j n v p x false e)) (sym on) ih))
