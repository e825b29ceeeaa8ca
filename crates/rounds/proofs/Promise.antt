-- The promise over every list of records: the entries are the book's, openings and versions go by their rules, and each round's life is told.
-- Assumes nothing.
use mathlib.Core.Path.{◌≡◌, refl, sym, ap, ap₂, ◌∙◌, subst, subst₂}
use mathlib.Core.Logic.{◌↔◌}
use mathlib.Core.Bool.{Bool, true, false, not, cond, ◌&&◌, ◌||◌, true≢false}
use mathlib.Core.List.{List, [], ◌∷◌}
use Prim.Native.Nat.{ℕ, suc, ◌+◌, ◌*◌, ◌-◌, ◌/◌, ◌<◌, ◌≤◌, min}
use native.Mathlib.Omega.{arith}
use native.Mathlib.Nat.{div-lt_iff_lt-mul, mul-pos, zero-add}
use borrow.Author.Tests.{ltb-true, ltb-false, leb-true, leb-false, eq-eqb, ne_eqb}
use lib.Dec.{leb, ltb, eqb}
use lib.IntN.{pos}
use lib.ListN.{length}
use Rattle.voting.specs.declared.settings.VotingConfig.{VotingConfig}
use Rattle.std.specs.Prelude.{Some}
use Rattle.voting.specs.declared.table.Fork.{Fork}
use Rattle.voting.specs.Settings.{voting_length, vote_epochs, activation_epochs, fork_limit}
use Rattle.rounds.specs.Epochs.{boundary_votes, counted, last_of, forced_version}
use Rattle.rounds.specs.Book.{Round, idle, since, Book, epochs_since, book_add, book_rise, book_close, book_open, book_take, book_step, book_run}
use Rattle.rounds.specs.Replay.{Answer, refused, accepted, Replay, after, call, run, calls, add-epoch, epochs, Lawful}
use Rattle.rounds.specs.Claim.{Sound, Opening, first_book, entries_for, total, won, span, Boundary, Life, Promise}
use Rattle.voting.proofs.Laws.Tests.{by-test}
use Rattle.voting.proofs.Laws.Table.{absent-number}
use Rattle.rounds.proofs.Scaled.{epoch-is}
use Rattle.rounds.proofs.BookAt.{add_at, rise-at, close_at}
use Rattle.rounds.proofs.Invariant.{Open, InvR}
use Rattle.rounds.proofs.Rounds.{InvS, keeps, keeps-all, round', version'}
use Rattle.rounds.proofs.Life.{book_epochs, book_of, Later, LifeAt, life, past}

-- ---- the list of calls, read as the list of accepted epochs

module _ (g : VotingConfig) (m : Replay) (lawful : Lawful g m) where
  by_answer : (s : m.State) (b : Book) (r : m.Record) (rs : List m.Record) (a : Answer m.State) → m.step s r ≡ a
      → ((t : m.State) (b' : Book) → book_run g b' (calls m t rs) ≡ book_epochs g b' (m.next t) (epochs m t rs))
      → book_run g (book_step g b (call m r a)) (calls m (after m s a) rs)
      ≡ book_epochs g b (m.next s) (add-epoch m r a (epochs m (after m s a) rs))
  unfolding book_step add-epoch book_epochs
  by_answer s b r rs (refused n) e ih = ih s b
  by_answer s b r rs (accepted t) e ih =
      let x = lawful s r t e in
      ih t (book_take g b (m.height r) (m.votes r))
      ∙ ap₂ (λ (h k : ℕ). book_epochs g (book_take g b h (m.votes r)) k (epochs m t rs)) x.height
      (x.next ∙ ap (λ (h : ℕ). h + voting_length g) x.height)

  run-epochs : (s : m.State) (b : Book) (rs : List m.Record) → book_run g b (calls m s rs) ≡ book_epochs g b (m.next s) (epochs m s rs)
  unfolding book_run calls book_epochs epochs
  run-epochs s b [] = refl
  run-epochs s b (r ∷ rs) = by_answer s b r rs (m.step s r) refl (λ t b'. run-epochs t b' rs)

  -- heights rise by the length with each accepted record
  rise-by : (s : m.State) (r : m.Record) (rs : List m.Record) (a : Answer m.State) → m.step s r ≡ a
      → ((t : m.State) → m.next (run m t rs) ≡ m.next t + voting_length g * length (epochs m t rs))
      → m.next (run m (after m s a) rs) ≡ m.next s + voting_length g * length (add-epoch m r a (epochs m (after m s a) rs))
  unfolding add-epoch
  rise-by s r rs (refused n) e ih = ih s
  rise-by s r rs (accepted t) e ih =
      let x = lawful s r t e in
      let n = x.next in
      let h = x.height in
      let i = ih t in
      omega arith

  pub heights-rise : (s : m.State) (rs : List m.Record) → m.next (run m s rs) ≡ m.next s + voting_length g * length (epochs m s rs)
  unfolding run epochs
  heights-rise s [] = let q : m.next s ≡ m.next s + voting_length g * 0 = omega arith in q
  heights-rise s (r ∷ rs) = rise-by s r rs (m.step s r) refl (λ t. heights-rise t rs)

-- ---- a boundary

number : (a b : ℕ) → Some (pos a) ≡ Some (pos b) → a ≡ b
number a b e = cc

version-is : (r : Round) (v : ℕ) → (entries_for r v).version ≡ Some (pos v)
version-is idle v = refl
version-is (since s n) v = refl

-- a version that is known
stays_by : (g : VotingConfig) (h : ℕ) (r r' : Round) (v w : ℕ) → w ≡ forced_version g h v
    → (u : ℕ) → (entries_for r v).version ≡ Some (pos u) → (entries_for r' w).version ≡ Some (pos (forced_version g h u))
stays_by g h r r' v w q u e =
    let same : v ≡ u = number v u (sym (version-is r v) ∙ e) in
    version-is r' w ∙ ap (λ (k : ℕ). Some (pos k)) (q ∙ ap (forced_version g h) same)

-- no round is open before it, or the open one closes
opens-new : (vote : Bool) (h v : ℕ) (old : Fork) → ((S : ℕ) → old.start ≡ Some (pos S) → S < h)
    → ((entries_for (book_open h vote idle) v).start ≡ Some (pos h))
    ↔ ((vote ≡ true) × ((S : ℕ) → old.start ≡ Some (pos S) → (entries_for (book_open h vote idle) v).start ≡ Some (pos S) → ⊥))
unfolding book_open
opens-new true h v old less =
    (λ e. (refl, λ S o n. let q : h ≡ S = number h S n in let l = less S o in omega arith), λ k. refl)
opens-new false h v old less = (λ e. absurd (absent-number (pos h) e), λ k. absurd (true≢false (sym k.0)))

-- it stays open
opens_not : (vote : Bool) (S h n v w : ℕ) → S < h
    → ((entries_for (since S n) v).start ≡ Some (pos h))
    ↔ ((vote ≡ true) × ((S' : ℕ) → (entries_for (since S w) v).start ≡ Some (pos S') → (entries_for (since S n) v).start ≡ Some (pos S') → ⊥))
opens_not vote S h n v w less = (λ e. absurd (let q = number S h e in omega arith), λ k. absurd (k.1 S refl refl))

bound-idle : (g : VotingConfig) (vote : Bool) (h v : ℕ) → Boundary g h vote (entries_for idle v) (entries_for (book_open h vote idle) (forced_version g h v))
bound-idle g vote h v =
    record {
      opens = opens-new vote h (forced_version g h v) (entries_for idle v) (λ S e. absurd (absent-number (pos S) e));
      stays = λ away. stays_by g h idle (book_open h vote idle) v (forced_version g h v) refl;
    }

module _ (g : VotingConfig) (sound : Sound g) (vote : Bool) (S j n c v : ℕ) (positive : 0 < j) where
  -- not at its rise
  not-rising : ((S' : ℕ) → Some (pos S) ≡ Some (pos S') → S + voting_length g * j ≡ S' + voting_length g * (vote_epochs g + activation_epochs g) → ⊥)
      → eqb j (vote_epochs g + activation_epochs g) ≡ false
  not-rising away = ne_eqb j (vote_epochs g + activation_epochs g) (λ q. away S refl (ap (λ (k : ℕ). S + voting_length g * k) q))

  -- the version after it
  abbrev version-here : ℕ
  version-here = forced_version g (S + voting_length g * j) (cond (eqb j (vote_epochs g + activation_epochs g) && ltb (fork_limit g) (c + n)) (v + 1) v)

  version-stays : eqb j (vote_epochs g + activation_epochs g) ≡ false → version-here ≡ forced_version g (S + voting_length g * j) v
  version-stays e = simp e

  -- by whether the open round closes
  bound_by : (t : Bool) → Boundary g (S + voting_length g * j) vote (entries_for (since S n) v)
      (entries_for (book_open (S + voting_length g * j) vote (cond t idle (since S (c + n)))) version-here)
  unfolding book_open
  bound_by true =
      record {
        opens = opens-new vote (S + voting_length g * j) version-here (entries_for (since S n) v) (λ S' q. let same = number S S' q in let p = past g sound S j positive in omega arith);
        stays = λ away. stays_by g (S + voting_length g * j) (since S n) (book_open (S + voting_length g * j) vote idle) v version-here (version-stays (not-rising away));
      }
  bound_by false =
      record {
        opens = opens_not vote S (S + voting_length g * j) (c + n) version-here n (past g sound S j positive);
        stays = λ away. stays_by g (S + voting_length g * j) (since S n) (since S (c + n)) v version-here (version-stays (not-rising away));
      }

bound-since : (g : VotingConfig) → Sound g → (vote : Bool) (S n v h c : ℕ) → Open g S n v h c
    → Boundary g h vote (entries_for (since S n) v) (entries_for (round' g h vote c (since S n)) (version' g h c (since S n) v))
bound-since g sound vote S n v h c o =
    rw o.is_at
    (rw (add_at g sound S o.j n c o.quiet, rise-at g sound S o.j (c + n) v, close_at g sound S o.j (c + n))
    (bound_by g sound vote S o.j n c v o.j_pos
    ((eqb o.j (vote_epochs g + 1) && not (ltb (fork_limit g) (c + n))) || eqb o.j (vote_epochs g + activation_epochs g + 1))))

bound : (g : VotingConfig) → Sound g → (vote : Bool) (r : Round) (v h c : ℕ) → InvR g r v h c
    → Boundary g h vote (entries_for r v) (entries_for (round' g h vote c r) (version' g h c r v))
unfolding book_add book_close book_rise
bound g sound vote idle v h c i = bound-idle g vote h v
bound g sound vote (since S n) v h c o = bound-since g sound vote S n v h c o

-- ---- a round's life

-- where the new table has a round that starts here, it has no votes yet
opened-fresh : (h v : ℕ) (vote : Bool) → (entries_for (book_open h vote idle) v).start ≡ Some (pos h) → book_open h vote idle ≡ since h 0
unfolding book_open
opened-fresh h v true e = refl
opened-fresh h v false e = absurd (absent-number (pos h) e)

fresh_at : (S n v h : ℕ) (vote t : Bool) → S < h
    → (entries_for (book_open h vote (cond t idle (since S n))) v).start ≡ Some (pos h)
    → book_open h vote (cond t idle (since S n)) ≡ since h 0
unfolding book_open
fresh_at S n v h vote true less e = opened-fresh h v vote e
fresh_at S n v h vote false less e = absurd (let q = number S h e in omega arith)

fresh-since : (g : VotingConfig) → Sound g → (vote : Bool) (S n v h c w : ℕ) → Open g S n v h c
    → (entries_for (round' g h vote c (since S n)) w).start ≡ Some (pos h) → round' g h vote c (since S n) ≡ since h 0
fresh-since g sound vote S n v h c w o =
    rw o.is_at
    (rw (add_at g sound S o.j n c o.quiet, close_at g sound S o.j (c + n))
    (fresh_at S (c + n) w (S + voting_length g * o.j) vote
    ((eqb o.j (vote_epochs g + 1) && not (ltb (fork_limit g) (c + n))) || eqb o.j (vote_epochs g + activation_epochs g + 1))
    (past g sound S o.j o.j_pos)))

fresh : (g : VotingConfig) → Sound g → (vote : Bool) (r : Round) (v h c w : ℕ) → InvR g r v h c
    → (entries_for (round' g h vote c r) w).start ≡ Some (pos h) → round' g h vote c r ≡ since h 0
unfolding book_add book_close
fresh g sound vote idle v h c w i e = opened-fresh h w vote e
fresh g sound vote (since S n) v h c w o e = fresh-since g sound vote S n v h c w o e

later-start : (S : ℕ) (r : Round) (v : ℕ) → Later S r → (entries_for r v).start ≡ Some (pos S) → ⊥
later-start S idle v k e = absent-number (pos S) e
later-start S (since s n) v k e = let q = number s S e in omega arith

before-is : (g : VotingConfig) (es : List (List ℕ)) (b : Book) (h : ℕ) → (book_epochs g b h es).before ≡ last_of b.before es
unfolding book_epochs last_of book_take
before-is g [] b h = refl
before-is g (x ∷ es) b h = before-is g es (book_take g b h x) (h + voting_length g)

total-last : (e : List ℕ) (es : List (List ℕ)) → total (suc (length es)) (e ∷ es) ≡ total (length es) (e ∷ es) + counted (last_of e es)
unfolding total last_of
total-last e [] = omega arith
total-last e (x ∷ es) = let ih = total-last x es in omega arith

-- the rise of the round that began at S with e, where `es` are the epochs since
module _ (g : VotingConfig) (sound : Sound g) (S v : ℕ) (e : List ℕ) (es : List (List ℕ)) (at : suc (length es) ≡ vote_epochs g + activation_epochs g) where
  -- what it has collected then
  collected : cond (leb (suc (length es)) (vote_epochs g)) (total (min (length es) (vote_epochs g)) (e ∷ es) + counted (last_of e es)) (total (min (length es) (vote_epochs g)) (e ∷ es))
      ≡ total (vote_epochs g) (e ∷ es)
  collected =
      by-test (leb (suc (length es)) (vote_epochs g))
      (λ t.
      let le = leb-true (suc (length es)) (vote_epochs g) t in
      let here : vote_epochs g ≡ suc (length es) = omega arith in
      let short : min (length es) (vote_epochs g) ≡ length es = omega arith in
      simp (t, short) (sym (total-last e es) ∙ ap (λ (k : ℕ). total k (e ∷ es)) (sym here)))
      (λ t.
      let gt = leb-false (suc (length es)) (vote_epochs g) t in
      let full : min (length es) (vote_epochs g) ≡ vote_epochs g = omega arith in
      simp (t, full))

  -- it stands
  rise-standing : book_rise g (S + voting_length g * suc (length es)) (book_add g (S + voting_length g * suc (length es)) (counted (last_of e es)) (since S (total (min (length es) (vote_epochs g)) (e ∷ es)))) v
      ≡ cond (won g (e ∷ es)) (v + 1) v
  unfolding book_rise book_add epochs_since won
  rise-standing =
      rw (epoch-is (voting_length g) S sound.length-positive (suc (length es)), collected, eq-eqb (suc (length es)) (vote_epochs g + activation_epochs g) at)

  -- it is closed, and another one may be open
  rise-later : (c : ℕ) (r : Round) → Later S r → book_rise g (S + voting_length g * suc (length es)) (book_add g (S + voting_length g * suc (length es)) c r) v ≡ v
  unfolding book_rise book_add epochs_since
  rise-later c idle k = refl
  rise-later c (since s n) k =
      let l : (S + voting_length g * suc (length es) - s) / voting_length g < suc (length es) =
      (div-lt_iff_lt-mul sound.length-positive).1 (let q : 0 < suc (length es) = omega arith in let p = mul-pos sound.length-positive q in omega arith)
      in
      simp (ne_eqb ((S + voting_length g * suc (length es) - s) / voting_length g) (vote_epochs g + activation_epochs g) (λ q. omega arith))

-- ---- from the book to the replay

-- an opening meets the invariant
at-opening : (g : VotingConfig) → Sound g → (m : Replay) (s : m.State) (v : ℕ) (before : List ℕ) → Opening g m s v before → InvS g m s (first_book v before)
at-opening g sound m s v before o =
    let small = o.version-small in
    record {
      table = o.table;
      tallied = o.brought;
      few = o.few;
      mult = o.multiple;
      rounds = omega arith;
    }

module _ (g : VotingConfig) (sound : Sound g) (m : Replay) (lawful : Lawful g m) where
  -- an accepted record after any state that has the invariant
  bound-step : (s : m.State) (b : Book) → InvS g m s b → (r : m.Record) (t : m.State) → m.step s r ≡ accepted t
      → (m.height r ≡ m.next s) × Boundary g (m.height r) (boundary_votes (m.votes r)) (m.fork s) (m.fork t)
  unfolding book_step book_take
  bound-step s b i r t e =
      let x = lawful s r t e in
      let k : InvS g m t (book_take g b (m.height r) (m.votes r)) = keeps g sound m lawful s b r i (accepted t) e in (
        x.height,
        subst₂ (λ (old new : Fork). Boundary g (m.height r) (boundary_votes (m.votes r)) old new) (sym i.table) (sym k.table)
            (bound g sound (boundary_votes (m.votes r)) b.round b.version (m.height r) (counted b.before) (rw x.height i.rounds)),
      )

  -- a round that opened at S by e; the state t after it and its book, and the records since
  module _ (S w : ℕ) (e : List ℕ) (t : m.State) (i : InvS g m t (book_of w (since S 0) e)) (next : m.next t ≡ S + voting_length g * 1) (rs : List m.Record) where
    abbrev since-then : List (List ℕ)
    since-then = epochs m t rs

    abbrev now-book : Book
    now-book = book_run g (book_of w (since S 0) e) (calls m t rs)

    now : InvS g m (run m t rs) now-book
    now = keeps-all g sound m lawful t (book_of w (since S 0) e) rs i

    book-is : now-book ≡ book_epochs g (book_of w (since S 0) e) (S + voting_length g * 1) since-then
    book-is = run-epochs g m lawful t (book_of w (since S 0) e) rs ∙ ap (λ (h : ℕ). book_epochs g (book_of w (since S 0) e) h since-then) next

    told : LifeAt g S 1 0 e since-then now-book.round
    told =
        let p = sound.votes-positive in
        subst (λ (b : Book). LifeAt g S 1 0 e since-then b.round) (sym book-is)
        (life g sound S since-then 1 0 w e (omega arith) (omega arith) (λ q. absurd (let f : ⊥ = omega arith in f)))

    -- the same, in the claim's terms
    standing : length since-then < span g (e ∷ since-then) → now-book.round ≡ since S (total (min (length since-then) (vote_epochs g)) (e ∷ since-then))
    unfolding span won
    standing lt =
        let all : vote_epochs g + 1 - 1 ≡ vote_epochs g = omega arith in
        let k = simp (all, zero-add) at told in
        k.0 (omega arith)

    closed : span g (e ∷ since-then) ≤ length since-then → Later S now-book.round
    unfolding span won
    closed le =
        let all : vote_epochs g + 1 - 1 ≡ vote_epochs g = omega arith in
        let k = simp (all, zero-add) at told in
        k.1 (omega arith)

    -- the epoch before the next boundary
    last-is : now-book.before ≡ last_of e since-then
    last-is = ap (λ (b : Book). b.before) book-is ∙ before-is g since-then (book_of w (since S 0) e) (S + voting_length g * 1)

    -- a closed round did not win, where its rise would be
    lost : suc (length since-then) ≡ vote_epochs g + activation_epochs g → span g (e ∷ since-then) ≤ length since-then → won g (e ∷ since-then) ≡ false
    unfolding span
    lost at le = go (won g (e ∷ since-then)) refl
      where
        go : (t : Bool) → won g (e ∷ since-then) ≡ t → t ≡ false
        go true q = let s = simp q at le in absurd (let f : ⊥ = omega arith in f)
        go false q = refl

    rise-is : suc (length since-then) ≡ vote_epochs g + activation_epochs g → (v : ℕ)
        → book_rise g (S + voting_length g * suc (length since-then)) (book_add g (S + voting_length g * suc (length since-then)) (counted now-book.before) now-book.round) v
        ≡ cond (won g (e ∷ since-then)) (v + 1) v
    rise-is at v =
        by-test (ltb (length since-then) (span g (e ∷ since-then)))
        (λ q.
        ap₂ (λ (r : Round) (x : List ℕ). book_rise g (S + voting_length g * suc (length since-then)) (book_add g (S + voting_length g * suc (length since-then)) (counted x) r) v) (standing (ltb-true (length since-then) (span g (e ∷ since-then)) q)) last-is
        ∙ rise-standing g sound S v e since-then at)
        (λ q.
        let le = ltb-false (length since-then) (span g (e ∷ since-then)) q in
        rise-later g sound S v e since-then at (counted now-book.before) now-book.round (closed le)
        ∙ ap (λ (t : Bool). cond t (v + 1) v) (sym (lost at le)))

    rising : (r : m.Record) (u : m.State) → m.step (run m t rs) r ≡ accepted u → suc (length since-then) ≡ vote_epochs g + activation_epochs g
        → (v : ℕ) → (m.fork (run m t rs)).version ≡ Some (pos v)
        → (m.fork u).version ≡ Some (pos (forced_version g (m.height r) (cond (won g (e ∷ since-then)) (v + 1) v)))
    unfolding book_step book_take
    rising r u q at v is-v =
        let x = lawful (run m t rs) r u q in
        let k : InvS g m u (book_take g now-book (m.height r) (m.votes r)) = keeps g sound m lawful (run m t rs) now-book r now (accepted u) q in
        let same : now-book.version ≡ v = number now-book.version v (sym (version-is now-book.round now-book.version) ∙ sym (ap (λ (f : Fork). f.version) now.table) ∙ is-v) in
        let rise = heights-rise g m lawful t rs in
        let height : m.height r ≡ S + voting_length g * suc (length since-then) = let a = x.height in let b = next in omega arith in
        let won-or-not : book_rise g (m.height r) (book_add g (m.height r) (counted now-book.before) now-book.round) now-book.version ≡ cond (won g (e ∷ since-then)) (v + 1) v =
        ap₂ (λ (h a : ℕ). book_rise g h (book_add g h (counted now-book.before) now-book.round) a) height same ∙ rise-is at v
        in
        ap (λ (f : Fork). f.version) k.table
        ∙ version-is (round' g (m.height r) (boundary_votes (m.votes r)) (counted now-book.before) now-book.round) (version' g (m.height r) (counted now-book.before) now-book.round now-book.version)
        ∙ ap (λ (a : ℕ). Some (pos (forced_version g (m.height r) a))) won-or-not

    life-told : Life g m S e t rs
    life-told =
        record {
          stands = λ lt. let q = now.table ∙ ap (λ (r : Round). entries_for r now-book.version) (standing lt) in (ap (λ (f : Fork). f.start) q, ap (λ (f : Fork). f.votes) q);
          closes = λ le q. later-start S now-book.round now-book.version (closed le) (sym (ap (λ (f : Fork). f.start) now.table) ∙ q);
          rises = rising;
        }

  life-step : (s : m.State) (b : Book) → InvS g m s b → (r : m.Record) (t : m.State) → m.step s r ≡ accepted t
      → (m.fork t).start ≡ Some (pos (m.height r)) → (rs : List m.Record) → Life g m (m.height r) (m.votes r) t rs
  unfolding book_step book_take
  life-step s b i r t q opens rs =
      let x = lawful s r t q in
      let b₁ = book_take g b (m.height r) (m.votes r) in
      let k : InvS g m t b₁ = keeps g sound m lawful s b r i (accepted t) q in
      let new : b₁.round ≡ since (m.height r) 0 =
      fresh g sound (boundary_votes (m.votes r)) b.round b.version (m.height r) (counted b.before) b₁.version
      (rw x.height i.rounds) (sym (ap (λ (f : Fork). f.start) k.table) ∙ opens)
      in
      let is : b₁ ≡ book_of b₁.version (since (m.height r) 0) (m.votes r) = λ z. record { version = b₁.version; round = new z; before = m.votes r } in
      let on : m.next t ≡ m.height r + voting_length g * 1 = let n = x.next in omega arith in
      life-told (m.height r) b₁.version (m.votes r) t (subst (InvS g m t) is k) on rs

-- the theorem
pub promise : (g : VotingConfig) (m : Replay) (s : m.State) (v : ℕ) (before : List ℕ) → Sound g → Lawful g m → Opening g m s v before
    → (rs : List m.Record) → Promise g m s v before rs
promise g m s v before sound lawful o rs =
    let b = first_book v before in
    let i = keeps-all g sound m lawful s b rs (at-opening g sound m s v before o) in
    record {
      heights = heights-rise g m lawful s rs;
      book = i.table;
      boundary = bound-step g sound m lawful (run m s rs) (book_run g b (calls m s rs)) i;
      life = life-step g sound m lawful (run m s rs) (book_run g b (calls m s rs)) i;
    }
