-- Tests taken apart, and tests that say the same; answers taken apart, and what follows one.
-- Assumes nothing.
use Rattle.std.proofs.Common.{◌≡◌, ℕ, suc, ◌<◌, ◌≤◌, Bool, true, false, ◌&&◌, ◌||◌, eqb, ltb, leb, List, [], ◌∷◌, sym, refl, true≢false, arith, eq-eqb, ne_eqb, eqb-true, le-leb, leb-false, leb-true}
use mathlib.Core.Bool.{false≢true}
use borrow.Author.Tests.{eqb-false}
use Rattle.std.specs.Prelude.{Result, Ok, Err, ⊤, IsErrAnd}
use Rattle.std.specs.Result.{result_and}
use Rattle.codec.specs.Check.{and_then}

-- the two ways of a test
pub by-test : {P : Type 0} (b : Bool) → (b ≡ true → P) → (b ≡ false → P) → P
by-test true f g = f refl
by-test false f g = g refl

pub both : (a b : Bool) → a && b ≡ true → (a ≡ true) × (b ≡ true)
both true b e = (refl, e)
both false b e = absurd (false≢true e)

pub neither : (a b : Bool) → a || b ≡ false → (a ≡ false) × (b ≡ false)
neither true b e = absurd (true≢false e)
neither false b e = (refl, e)

pub or_elim : {P : Type 0} (a b : Bool) → a || b ≡ true → (a ≡ true → P) → (b ≡ true → P) → P
or_elim true b e f g = f refl
or_elim false b e f g = g e

-- a test that every element of a list passes
unfoldable pub every : {A : Type 0} → (A → Bool) → List A → Bool
every p [] = true
every p (x ∷ xs) = p x && every p xs

-- two tests that say the same
pub eqb-iff : (a b c d : ℕ) → (a ≡ b → c ≡ d) → (c ≡ d → a ≡ b) → eqb a b ≡ eqb c d
eqb-iff a b c d f g = go (eqb a b) refl
  where
    go : (t : Bool) → eqb a b ≡ t → t ≡ eqb c d
    go true e = sym (eq-eqb c d (f (eqb-true a b e)))
    go false e = sym (ne_eqb c d (λ q. eqb-false a b e (g q)))

pub leb-iff : (a b c d : ℕ) → (a ≤ b → c ≤ d) → (c ≤ d → a ≤ b) → leb a b ≡ leb c d
leb-iff a b c d f g = go (leb a b) refl
  where
    go : (t : Bool) → leb a b ≡ t → t ≡ leb c d
    go true e = sym (le-leb c d (f (leb-true a b e)))
    go false e = go' (leb c d) refl
      where
        go' : (u : Bool) → leb c d ≡ u → false ≡ u
        go' true q = let k : a ≤ b = g (leb-true c d q) in absurd (omega (arith, leb-false a b e))
        go' false q = refl

pub ltb_iff : (a b c d : ℕ) → (a < b → c < d) → (c < d → a < b) → ltb a b ≡ ltb c d
ltb_iff a b c d f g = leb-iff (suc a) b (suc c) d f g

pub eqb_comm : (a b : ℕ) → eqb a b ≡ eqb b a
eqb_comm a b = go (eqb b a) refl
  where
    go : (t : Bool) → eqb b a ≡ t → eqb a b ≡ t
    go true e = eq-eqb a b (sym (eqb-true b a e))
    go false e = ne_eqb a b (λ q. eqb-false b a e (sym q))

-- ---- answers

-- the two ways of an answer
pub by-answer : {P A E : Type 0} (r : Result A E) → ((x : A) → r ≡ Ok x → P) → ((e : E) → r ≡ Err e → P) → P
by-answer (Ok x) f g = f x refl
by-answer (Err e) f g = g e refl

-- what a `?` gives back at once is the refusal
pub early : {A E : Type 0} (r : Result A E) {e : E} → IsErrAnd r (λ x. x ≡ e) → r ≡ Err e
early (Ok x) h = absurd h
early (Err y) h = rw h

-- what follows an answer: it was refused, or it goes on with the value
module _ {A B E : Type 0} (r : Result A E) (next : A → Result B E) where
  pub then-stop : {e : E} → r ≡ Err e → and_then r next ≡ Err e
  then-stop q = rw q

  pub then-pass : {x : A} → r ≡ Ok x → and_then r next ≡ next x
  then-pass q = rw q

-- where what follows has a value, the answer had one
pub then_ok : {A B E : Type 0} (r : Result A E) (next : A → Result B E) {y : B} → and_then r next ≡ Ok y → (x : A) × (r ≡ Ok x) × (next x ≡ Ok y)
then_ok (Ok x) next q = (x, refl, q)
then_ok (Err e) next q = cc

-- two answers in order: the first refusal, or else the second
module _ {A B E : Type 0} (r : Result A E) (s : Result B E) where
  pub and-stop : {e : E} → r ≡ Err e → result_and r s ≡ Err e
  and-stop q = rw q

  pub and-pass : {x : A} → r ≡ Ok x → result_and r s ≡ s
  and-pass q = rw q

-- two checks pass only together
pub and-passed : {E : Type 0} (r s : Result ⊤ E) → result_and r s ≡ Ok tt → (r ≡ Ok tt) × (s ≡ Ok tt)
and-passed (Ok x) s q = (refl, q)
and-passed (Err e) s q = cc
