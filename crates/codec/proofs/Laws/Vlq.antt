-- What the VLQ definitions say at a position of a list, one byte at a time, and at a width.
-- Assumes nothing.
use Rattle.std.proofs.Common.{◌≡◌, ℕ, zero, suc, ◌+◌, ◌-◌, ◌*◌, ◌/◌, ◌%◌, ◌^◌, ◌<◌, ◌≤◌, Bool, true, false, cond, ltb, List, [], ◌∷◌, length, get_or, drop, set, refl, ap, add-one, sub-one, pow-suc, arith, drop_of_length-le, drop-cons, le-ltb, lt-ltb}
use lib.Seq.{sets}
use Rattle.codec.specs.Vlq.{Found, found, unreadable, continued, byte, number_of, low64, below, placed, shortest_of, vlq_bytes}
use Rattle.codec.specs.declared.vlq.Number.{Number}
use Rattle.std.specs.Prelude.{Some, None}

no_bytes : (n : ℕ) → number_of n [] ≡ unreadable
unfolding number_of
no_bytes zero = refl
no_bytes (suc n) = refl

at-end : (s : List ℕ) (at n : ℕ) → length s ≤ at → number_of n (drop at s) ≡ unreadable
at-end s at n h = rw (drop_of_length-le s h) (no_bytes n)

at_byte : (s : List ℕ) (at n : ℕ) → at < length s → (n ≡ 0 → ⊥)
    → number_of n (drop at s) ≡ byte (ltb (get_or s at 0) 128) (get_or s at 0) (number_of (n - 1) (drop (at + 1) s))
unfolding number_of
at_byte s at zero h f = absurd (f refl)
at_byte s at (suc n) h f = rw (drop-cons s at 0 h, sub-one, add-one)

-- a byte that continues, before a number of which 64 bits were kept
module _ (at b : ℕ) where
  continues : (m : Number) (g : Found) → Some m ≡ placed (at + 1) (low64 g)
      → Some (record { value = (m.value % 0x200_0000_0000_0000) * 128 + b % 128; next = m.next }) ≡ placed at (low64 (continued b g))
  unfolding placed low64 continued
  continues m (found v n) e =
      let ev : m.value ≡ v % 2 ^ 64 = cc in
      let en : m.next ≡ at + 1 + n = cc in
      let el : m.next ≡ at + suc n = omega arith in
      let ew : (m.value % 0x200_0000_0000_0000) * 128 + b % 128 ≡ (b % 128 + 128 * v) % 2 ^ 64 = omega arith in
      rw (ew, el)
  continues m unreadable e = absurd (let z : ◌≡◌ {A = ℕ} 0 1 = cc in omega arith)

  stays-unreadable : (g : Found) → None ≡ placed (at + 1) (low64 g) → None ≡ placed at (low64 (continued b g))
  unfolding placed low64 continued
  stays-unreadable (found v n) e = absurd (let z : ◌≡◌ {A = ℕ} 0 1 = cc in omega arith)
  stays-unreadable unreadable e = refl

-- what a read at a position answers, by the byte there
module _ (s : List ℕ) (at n : ℕ) where
  pub none : n ≡ 0 → None ≡ placed at (low64 (number_of n (drop at s)))
  unfolding placed low64 number_of
  none e = rw e

  pub end : length s ≤ at → None ≡ placed at (low64 (number_of n (drop at s)))
  unfolding placed low64
  end h = rw (at-end s at n h)

  module _ (h : at < length s) (f : n ≡ 0 → ⊥) where
    pub last : get_or s at 0 < 128 → Some (record { value = get_or s at 0; next = at + 1 }) ≡ placed at (low64 (number_of n (drop at s)))
    unfolding placed low64 byte
    last l =
        let e : get_or s at 0 % 2 ^ 64 ≡ get_or s at 0 = omega arith in
        rw (at_byte s at n h f, lt-ltb _ _ l, e)

    module _ (l : 128 ≤ get_or s at 0) where
      pub more : (m : Number) → Some m ≡ placed (at + 1) (low64 (number_of (n - 1) (drop (at + 1) s)))
          → Some (record { value = (m.value % 0x200_0000_0000_0000) * 128 + get_or s at 0 % 128; next = m.next }) ≡ placed at (low64 (number_of n (drop at s)))
      unfolding byte
      more m e = rw (at_byte s at n h f, le-ltb _ _ l) (continues at (get_or s at 0) m _ e)

      pub stops : None ≡ placed (at + 1) (low64 (number_of (n - 1) (drop (at + 1) s))) → None ≡ placed at (low64 (number_of n (drop at s)))
      unfolding byte
      stops e = rw (at_byte s at n h f, le-ltb _ _ l) (stays-unreadable at (get_or s at 0) _ e)

-- a number that must be below a limit: the fact that every width shares
module _ (at limit : ℕ) where
  pub fits : (m : Number) (g : Found) → Some m ≡ placed at g → m.value < limit → Some m ≡ placed at (below limit g)
  unfolding placed below
  fits m (found v n) e h = let ev : m.value ≡ v = cc in rw (lt-ltb v limit (rw ev at h)) e
  fits m unreadable e h = e

  pub over : (m : Number) (g : Found) → Some m ≡ placed at g → limit ≤ m.value → None ≡ placed at (below limit g)
  unfolding placed below
  over m (found v n) e h = let ev : m.value ≡ v = cc in rw (le-ltb v limit (rw ev at h))
  over m unreadable e h = refl

  pub unread : (g : Found) → None ≡ placed at g → None ≡ placed at (below limit g)
  unfolding placed below
  unread (found v n) e = absurd (let z : ◌≡◌ {A = ℕ} 0 1 = cc in omega arith)
  unread unreadable e = refl

-- the shortest form, one byte at a time
shortest-last : (n x : ℕ) → 0 < n → x < 128 → shortest_of n x ≡ x ∷ []
unfolding shortest_of
shortest-last zero x h l = absurd (omega arith)
shortest-last (suc n) x h l = rw (lt-ltb x 128 l)

shortest-more : (n x : ℕ) → 0 < n → 128 ≤ x → shortest_of n x ≡ (128 + x % 128) ∷ shortest_of (n - 1) (x / 128)
unfolding shortest_of
shortest-more zero x h l = absurd (omega arith)
shortest-more (suc n) x h l = rw (le-ltb x 128 l, sub-one)

-- how many bytes it takes
module _ (n x : ℕ) (h : 0 < n) where
  pub length_last : x < 128 → length (shortest_of n x) ≡ 1
  length_last l = ap length (shortest-last n x h l)

  pub length_more : 128 ≤ x → length (shortest_of n x) ≡ suc (length (shortest_of (n - 1) (x / 128)))
  length_more l = ap length (shortest-more n x h l)

pub length_one : (x : ℕ) → length (shortest_of 1 x) ≡ 1
unfolding shortest_of
length_one x = go (ltb x 128)
  where
    go : (q : Bool) → length (cond q (x ∷ []) ((128 + x % 128) ∷ [])) ≡ 1
    go true = refl
    go false = refl

-- where n bytes are enough, more change nothing
enough : (n x : ℕ) → x < 128 ^ suc n → shortest_of (suc n) x ≡ shortest_of (suc (suc n)) x
unfolding shortest_of
enough zero x h = rw (lt-ltb x 128 (omega arith))
enough (suc n) x h = go (ltb x 128) (enough n (x / 128) (omega (arith, pow-suc 128 (suc n))))
  where
    go : (q : Bool) → shortest_of (suc n) (x / 128) ≡ shortest_of (suc (suc n)) (x / 128)
        → cond q (x ∷ []) ((128 + x % 128) ∷ shortest_of (suc n) (x / 128)) ≡ cond q (x ∷ []) ((128 + x % 128) ∷ shortest_of (suc (suc n)) (x / 128))
    go true e = refl
    go false e = rw e

-- the bytes that are left to write, after one more
module _ (x : ℕ) (cells : List ℕ) (i : ℕ) where
  pub put_last : x < 128 → sets cells i (vlq_bytes x) ≡ set cells i x
  unfolding vlq_bytes
  put_last l = rw (shortest-last 10 x (omega arith) l)

  pub put-more : x < 2 ^ 64 → 128 ≤ x → sets cells i (vlq_bytes x) ≡ sets (set cells i (128 + x % 128)) (i + 1) (vlq_bytes (x / 128))
  unfolding vlq_bytes
  put-more h l = rw (shortest-more 10 x (omega arith) l, add-one, enough 8 (x / 128) (omega arith))
