-- A text after a text in a scratch buffer, and the digits of a number.
-- Assumes nothing.
use Rattle.std.proofs.Common.{◌≡◌, ℕ, zero, suc, ◌+◌, ◌-◌, ◌*◌, ◌/◌, ◌%◌, ◌^◌, ◌<◌, ◌≤◌, Bool, true, false, cond, ltb, List, [], ◌∷◌, ◌++◌, length, take, drop, sym, refl, ap, ◌∙◌, subst, pow-suc, sub-one, arith, length-append, length-take-le, take_at, ltb-false, ltb-true, le-ltb, lt-ltb}
use lib.Seq.{sets, sets-eq}
use Rattle.codec.specs.Put.{Put}
use Rattle.codec.specs.Decimal.{digits, value_of, AllDigits, NoZeroInFront, Decimal}
use Rattle.codec.proofs.Laws.Output.{sets-append}

-- a text, and another after it
pub joined : {a b : List ℕ} {m n i j k : ℕ} {d d' d'' : List ℕ} → Put a m i j d d' → Put b n j k d' d'' → Put (a ++ b) (m + n) i k d d''
joined {a} {b} {m} {n} {i} {j} {k} {d} {d'} {d''} p q = record {
  is = q.is ∙ ap (λ (l : List ℕ). sets l j b) p.is ∙ ap (λ (e : ℕ). sets (sets d i a) e b) p.ends ∙ sym (sets-append a b d i);
  ends = let l : length (a ++ b) ≡ length a + length b = simp length-append in omega arith;
  small = omega arith;
}

-- a bound that is wider, and a text that is the same
pub wider : {a : List ℕ} {m n i j : ℕ} {d d' : List ℕ} → m ≤ n → Put a m i j d d' → Put a n i j d d'
wider h p = record { is = p.is; ends = p.ends; small = omega arith }

pub same_text : {a b : List ℕ} {m i j : ℕ} {d d' : List ℕ} → a ≡ b → Put a m i j d d' → Put b m i j d d'
same_text {a} {b} {m} {i} {j} {d} {d'} e p = subst (λ (t : List ℕ). Put t m i j d d') e p

pub nothing : (i : ℕ) (d : List ℕ) → Put [] 0 i i d d
nothing i d = record { is = refl; ends = omega arith; small = omega arith }

-- the digits of a number: none are left, the first one, or one more behind the others
pub digits-none : (k n : ℕ) → k ≡ 0 → [] ≡ digits k n
unfolding digits
digits-none k n e = rw e

pub digits-first : (k n : ℕ) → (k ≡ 0 → ⊥) → n < 10 → (48 + n) ∷ [] ≡ digits k n
unfolding digits
digits-first zero n f h = absurd (f refl)
digits-first (suc k) n f h = rw (lt-ltb _ _ h)

pub digits_more : (k n : ℕ) → (k ≡ 0 → ⊥) → 10 ≤ n → digits (k - 1) (n / 10) ++ ((48 + n % 10) ∷ []) ≡ digits k n
unfolding digits
digits_more zero n f h = absurd (f refl)
digits_more (suc k) n f h = rw (le-ltb _ _ h, sub-one)

-- a text that was put at the start of a buffer which holds it, read back
pub read_back : {w l l' : List ℕ} {m n : ℕ} → Put w m 0 n l l' → m ≤ length l → take n l' ≡ w
read_back {w} {l} {l'} {m} {n} p h =
    let e : n ≡ length w = omega arith in
    let h' : 0 + length w ≤ length l = omega arith in
    rw (p.is, sets-eq w l 0 h', e) (take_at w (drop (0 + length w) l) (length w) refl)

-- how long a number is
pub digits-length : (k n : ℕ) → length (digits k n) ≤ k
unfolding digits
digits-length zero n = omega arith
digits-length (suc k) n = one_more (ltb n 10) (digits k (n / 10)) (digits-length k (n / 10))
  where
    one_more : (b : Bool) (l : List ℕ) → length l ≤ k → length (cond b ((48 + n) ∷ []) (l ++ ((48 + n % 10) ∷ []))) ≤ suc k
    one_more true l h = omega arith
    one_more false l h = omega (arith, h, length-append l ((48 + n % 10) ∷ []))

pub digits-short : (k j n : ℕ) → n < 10 ^ suc j → length (digits k n) ≤ suc j
unfolding digits
digits-short zero j n h = omega arith
digits-short (suc k) j n h = go (ltb n 10) refl j h (digits-short k)
  where
    go : (b : Bool) → ltb n 10 ≡ b → (j : ℕ) → n < 10 ^ suc j → ((j m : ℕ) → m < 10 ^ suc j → length (digits k m) ≤ suc j)
        → length (cond b ((48 + n) ∷ []) (digits k (n / 10) ++ ((48 + n % 10) ∷ []))) ≤ suc j
    go true e j h ih = omega arith
    go false e zero h ih = absurd (omega (arith, ltb-false n 10 e))
    go false e (suc j) h ih =
        omega (arith, ih j (n / 10) (omega (arith, pow-suc 10 (suc j))), length-append (digits k (n / 10)) ((48 + n % 10) ∷ []))

-- a text of a scratch buffer, handed on
module _ (w cells text : List ℕ) (k m : ℕ) (p : Put w m 0 k cells text) (wide : m ≤ length cells) where
  pub part_length : length text ≡ length cells → k ≡ length (take k text)
  part_length e = sym (length-take-le k text (omega (arith, p.small)))

  pub handed-on : (before after : List ℕ) (at : ℕ) → after ≡ sets before at (take k text) → after ≡ sets before at w
  handed-on before after at e = e ∙ ap (sets before at) (read_back p wide)

-- ---- digits are their number in decimal

all_append : (xs ys : List ℕ) → AllDigits xs → AllDigits ys → AllDigits (xs ++ ys)
all_append [] ys h g = g
all_append (x ∷ xs) ys h g = (h.0, h.1, all_append xs ys h.2 g)

one-digit : (d : ℕ) → d < 10 → AllDigits ((48 + d) ∷ [])
one-digit d h = (omega arith, omega arith, tt)

digits-all : (k n : ℕ) → AllDigits (digits k n)
unfolding digits
digits-all zero n = tt
digits-all (suc k) n = go (ltb n 10) refl (digits-all k (n / 10))
  where
    go : (b : Bool) → ltb n 10 ≡ b → AllDigits (digits k (n / 10)) → AllDigits (cond b ((48 + n) ∷ []) (digits k (n / 10) ++ ((48 + n % 10) ∷ [])))
    go true e ih = one-digit n (ltb-true n 10 e)
    go false e ih = all_append (digits k (n / 10)) ((48 + n % 10) ∷ []) ih (one-digit (n % 10) (omega arith))

value-append : (n d : ℕ) (ds : List ℕ) → value_of n (ds ++ (d ∷ [])) ≡ value_of n ds * 10 + (d - 48)
unfolding value_of
value-append n d [] = refl
value-append n d (x ∷ ds) = value-append (n * 10 + (x - 48)) d ds

digits_value : (k n : ℕ) → n < 10 ^ k → value_of 0 (digits k n) ≡ n
unfolding value_of digits
digits_value zero n h = omega arith
digits_value (suc k) n h = go (ltb n 10) refl (digits_value k (n / 10) (omega (arith, pow-suc 10 k)))
  where
    go : (t : Bool) → ltb n 10 ≡ t → value_of 0 (digits k (n / 10)) ≡ n / 10 → value_of 0 (cond t ((48 + n) ∷ []) (digits k (n / 10) ++ ((48 + n % 10) ∷ []))) ≡ n
    go true e ih = omega arith
    go false e ih = value-append 0 (48 + n % 10) (digits k (n / 10)) ∙ omega (arith, ih)

-- the first byte is above `0`
abbrev Above : List ℕ → Type 0
Above [] = ⊥
Above (d ∷ ds) = 48 < d

above-append : (xs ys : List ℕ) → Above xs → Above (xs ++ ys)
above-append [] ys h = absurd h
above-append (x ∷ xs) ys h = h

above-front : (xs : List ℕ) → Above xs → NoZeroInFront xs
above-front [] h = h
above-front (x ∷ xs) h = λ e. absurd (omega (arith, h, e))

digits_above : (k n : ℕ) → 1 ≤ n → n < 10 ^ k → Above (digits k n)
unfolding digits
digits_above zero n l h = absurd (omega arith)
digits_above (suc k) n l h = go (ltb n 10) refl (digits_above k (n / 10))
  where
    go : (b : Bool) → ltb n 10 ≡ b → (1 ≤ n / 10 → n / 10 < 10 ^ k → Above (digits k (n / 10))) → Above (cond b ((48 + n) ∷ []) (digits k (n / 10) ++ ((48 + n % 10) ∷ [])))
    go true e ih = omega arith
    go false e ih =
        let g : 10 ≤ n = ltb-false n 10 e in
        above-append (digits k (n / 10)) ((48 + n % 10) ∷ []) (ih (omega arith) (omega (arith, pow-suc 10 k)))

digits-front : (k n : ℕ) → n < 10 ^ suc k → NoZeroInFront (digits (suc k) n)
unfolding digits
digits-front k zero h = λ e. refl
digits-front k (suc n) h = above-front (digits (suc k) (suc n)) (digits_above (suc k) (suc n) (omega arith) h)

pub digits_decimal : (k n : ℕ) → n < 10 ^ suc k → Decimal n (digits (suc k) n)
digits_decimal k n h = record { all = digits-all (suc k) n; value = digits_value (suc k) n h; front = digits-front k n h }
