-- VLQ there and back, at every width up to 64 bits: what was written is read back, no shorter form exists, and what is read lies inside.
-- Assumes nothing.
use Rattle.std.proofs.Common.{◌≡◌, ℕ, zero, suc, ◌+◌, ◌-◌, ◌*◌, ◌/◌, ◌%◌, ◌^◌, ◌<◌, ◌≤◌, Bool, true, false, cond, ltb, List, [], ◌∷◌, ◌++◌, length, drop, refl, ap, subst, lt_of_lt_of_le, mod-eq_of_lt, pow-suc, arith, length-drop, pow_mono, ltb-false, ltb-true, le-ltb, lt-ltb}
use native.Mathlib.Nat.{mod-le}
use Rattle.codec.specs.Vlq.{Found, found, unreadable, continued, byte, number_of, low64, below, vlq_of, placed, vlq_at, shortest_of, vlq_bytes, Shortest}
use Rattle.codec.specs.declared.vlq.Number.{Number}
use Rattle.std.specs.Prelude.{Some}

-- a number of one byte, and a number of one byte more
short : (n x : ℕ) (t : List ℕ) → x < 128 → number_of (suc n) (shortest_of (suc n) x ++ t) ≡ found x (length (shortest_of (suc n) x))
unfolding number_of shortest_of byte
short n x t l = simp (lt-ltb x 128 l)

long : (n x : ℕ) (t : List ℕ) → 128 ≤ x → number_of n (shortest_of n (x / 128) ++ t) ≡ found (x / 128) (length (shortest_of n (x / 128)))
    → number_of (suc n) (shortest_of (suc n) x ++ t) ≡ found x (length (shortest_of (suc n) x))
unfolding number_of shortest_of byte continued
long n x t l e =
    let a : (128 + x % 128) % 128 + 128 * (x / 128) ≡ x = omega arith in
    let b : 128 ≤ 128 + x % 128 = omega arith in
    simp (le-ltb x 128 l, le-ltb (128 + x % 128) 128 b, e) (ap (λ (v : ℕ). found v (suc (length (shortest_of n (x / 128))))) a)

back : (n x : ℕ) (t : List ℕ) → x < 128 ^ suc n → number_of (suc n) (shortest_of (suc n) x ++ t) ≡ found x (length (shortest_of (suc n) x))
back zero x t h = short zero x t h
back (suc n) x t h = go (ltb x 128) refl (back n (x / 128) t (omega (arith, pow-suc 128 (suc n))))
  where
    go : (q : Bool) → ltb x 128 ≡ q → number_of (suc n) (shortest_of (suc n) (x / 128) ++ t) ≡ found (x / 128) (length (shortest_of (suc n) (x / 128)))
        → number_of (suc (suc n)) (shortest_of (suc (suc n)) x ++ t) ≡ found x (length (shortest_of (suc (suc n)) x))
    go true e r = short (suc n) x t (ltb-true x 128 e)
    go false e r = long (suc n) x t (ltb-false x 128 e) r

-- what was written, followed by any bytes, is read back at every width that holds the number
pub written_read : (width x : ℕ) (t : List ℕ) → width ≤ 64 → x < 2 ^ width → vlq_of width (vlq_bytes x ++ t) ≡ found x (length (vlq_bytes x))
unfolding vlq_of vlq_bytes low64 below
written_read width x t w h =
    let b : x < 2 ^ 64 = lt_of_lt_of_le h (pow_mono w) in
    rw (back 9 x t (omega arith), mod-eq_of_lt b, lt-ltb x (2 ^ width) h)

-- the same at a position, with the position after it
pub written-read-at : (width x at : ℕ) (s t : List ℕ) → width ≤ 64 → x < 2 ^ width → drop at s ≡ vlq_bytes x ++ t
    → vlq_at width s at ≡ Some (record { value = x; next = at + length (vlq_bytes x) })
unfolding vlq_at placed
written-read-at width x at s t w h e = rw (e, written_read width x t w h)

-- the number that bytes begin with takes at least one byte, no more than there are, and is below 128 for each of them
abbrev Sized : ℕ → Found → Type 0
Sized most (found v n) = (v < 128 ^ n) × (0 < n) × (n ≤ most)
Sized most unreadable = Unit {0}

sized-continued : (b most : ℕ) (g : Found) → Sized most g → Sized (suc most) (continued b g)
unfolding continued
sized-continued b most (found v n) h = (omega (arith, pow-suc 128 n), omega arith, omega arith)
sized-continued b most unreadable h = tt

sized-byte : (t : Bool) (b most : ℕ) (g : Found) → ltb b 128 ≡ t → Sized most g → Sized (suc most) (byte t b g)
unfolding byte
sized-byte true b most g e h = (ltb-true b 128 e, omega arith, omega arith)
sized-byte false b most g e h = sized-continued b most g h

sized-number : (n : ℕ) (s : List ℕ) → Sized (length s) (number_of n s)
unfolding number_of
sized-number zero s = tt
sized-number (suc n) [] = tt
sized-number (suc n) (b ∷ s) = sized-byte (ltb b 128) b (length s) (number_of n s) refl (sized-number n s)

sized-low64 : (most : ℕ) (g : Found) → Sized most g → Sized most (low64 g)
unfolding low64
sized-low64 most (found v n) h = (omega (arith, mod-le v (2 ^ 64)), h.1, h.2)
sized-low64 most unreadable h = tt

sized-below : (limit most : ℕ) (g : Found) → Sized most g → Sized most (below limit g)
unfolding below
sized-below limit most (found v n) h = go (ltb v limit)
  where
    go : (t : Bool) → Sized most (cond t (found v n) unreadable)
    go true = h
    go false = tt
sized-below limit most unreadable h = tt

sized-vlq : (width : ℕ) (s : List ℕ) → Sized (length s) (vlq_of width s)
unfolding vlq_of
sized-vlq width s = sized-below (2 ^ width) (length s) (low64 (number_of 10 s)) (sized-low64 (length s) (number_of 10 s) (sized-number 10 s))

-- a shortest form is one byte longer than its rest
one_more : (t : Bool) (n x k : ℕ) → ltb x 128 ≡ t → (128 ≤ x → length (shortest_of n (x / 128)) ≤ k)
    → length (cond t (x ∷ []) ((128 + x % 128) ∷ shortest_of n (x / 128))) ≤ suc k
one_more true n x k e f = omega arith
one_more false n x k e f = let s : length (shortest_of n (x / 128)) ≤ k = f (ltb-false x 128 e) in omega arith

-- a number below 128 for each of k bytes takes at most k in shortest form
short-form : (n x k : ℕ) → 0 < k → x < 128 ^ k → length (shortest_of n x) ≤ k
unfolding shortest_of
short-form zero x k p h = omega arith
short-form (suc n) x zero p h = absurd (omega arith)
short-form (suc n) x (suc zero) p h = one_more (ltb x 128) n x zero refl (λ l. absurd (omega arith))
short-form (suc n) x (suc (suc k)) p h =
    one_more (ltb x 128) n x (suc k) refl (λ l. short-form n (x / 128) (suc k) (omega arith) (omega (arith, pow-suc 128 (suc k))))

short-at-most : (n x : ℕ) → length (shortest_of n x) ≤ n
unfolding shortest_of
short-at-most zero x = omega arith
short-at-most (suc n) x = one_more (ltb x 128) n x n refl (λ l. short-at-most n (x / 128))

-- no string of bytes from which the number is read is shorter than what the writer gives
pub no-shorter : (width x n : ℕ) (s : List ℕ) → vlq_of width s ≡ found x n → (length (vlq_bytes x) ≤ n) × (n ≤ length s)
unfolding vlq_bytes
no-shorter width x n s e =
    let z : Sized (length s) (found x n) = subst (Sized (length s)) e (sized-vlq width s) in
    (short-form 10 x n z.1 z.0, z.2)

pub shortest : (x : ℕ) → Shortest x
shortest x = record { reads-back = λ width after w h. written_read width x after w h; least = λ width n s e. (no-shorter width x n s e).0 }

-- the shortest form of any number has at most ten bytes
pub at-most-ten : (x : ℕ) → length (vlq_bytes x) ≤ 10
unfolding vlq_bytes
at-most-ten x = short-at-most 10 x

-- a number that was read at a position: below the width's limit, its bytes after the position and inside
pub record Inside (width most at : ℕ) (m : Number) : Type 0 where
  pub value-fits : m.value < 2 ^ width
  pub after : at < m.next
  pub inside : m.next ≤ most

abbrev Under : ℕ → Found → Type 0
Under limit (found v n) = v < limit
Under limit unreadable = Unit {0}

under-limit : (limit : ℕ) (g : Found) → Under limit (below limit g)
unfolding below
under-limit limit (found v n) = go (ltb v limit) refl
  where
    go : (t : Bool) → ltb v limit ≡ t → Under limit (cond t (found v n) unreadable)
    go true e = ltb-true v limit e
    go false e = tt
under-limit limit unreadable = tt

pub read-inside : (width at : ℕ) (s : List ℕ) (m : Number) → Some m ≡ vlq_at width s at → Inside width (length s) at m
unfolding vlq_at vlq_of placed
read-inside width at s m e = go (vlq_of width (drop at s)) (sized-vlq width (drop at s)) (under-limit (2 ^ width) (low64 (number_of 10 (drop at s)))) e
  where
    go : (g : Found) → Sized (length (drop at s)) g → Under (2 ^ width) g → Some m ≡ placed at g → Inside width (length s) at m
    go (found v n) z u e =
        let ev : m.value ≡ v = cc in
        let en : m.next ≡ at + n = cc in
        let l : length (drop at s) ≡ length s - at = length-drop at s in
        record { value-fits = omega arith; after = omega arith; inside = omega arith }
    go unreadable z u e = absurd (let c : ◌≡◌ {A = ℕ} 0 1 = cc in omega arith)
