-- Items one after another, by what stands at a position; tests of a list's elements; and a number that was not read.
-- Assumes nothing.
use mathlib.Core.Path.{◌≡◌, refl, sym, ap, ◌∙◌}
use mathlib.Core.Bool.{Bool, true, false}
use mathlib.Core.List.{List, [], ◌∷◌}
use Prim.Native.Nat.{ℕ, zero, suc, ◌+◌, ◌-◌, ◌≤◌, ◌<◌}
use native.Mathlib.Nat.{sub-zero}
use native.Mathlib.Numerals.{sub-one}
use native.Mathlib.Omega.{arith}
use Rattle.std.specs.Prelude.{Option, Some, None, Ok, Err}
use Rattle.std.specs.Option.{ok_or}
use Rattle.codec.specs.declared.refusal.Refusal.{Refusal}
use Rattle.extension.specs.declared.section.Section.{Section}
use Rattle.extension.specs.Section.{Reading, got, bad, Listing, done, stop, item, after, listing, items, section, no_section, closed, section_items, any}

module _ {A : Type 0} (read : ℕ → Reading A) (n at : ℕ) where
  pub listing_none : n ≤ 0 → listing read n at ≡ done at
  unfolding listing
  listing_none h = let e : n ≡ 0 = omega arith in rw e

  module _ (h : 0 < n) where
    listing-more : listing read n at ≡ after (read at) (listing read (n - 1))
    unfolding listing
    listing-more = go n h
      where
        go : (k : ℕ) → 0 < k → listing read k at ≡ after (read at) (listing read (k - 1))
        go zero h = absurd (omega arith)
        go (suc k) h = rw sub-one

    pub listing-stop : (e : Refusal) → read at ≡ bad e → listing read n at ≡ stop e
    unfolding after
    listing-stop e q = listing-more ∙ rw q

    pub listing-item : (a : A) (next : ℕ) → read at ≡ got a next → listing read n at ≡ item a (listing read (n - 1) next)
    unfolding after
    listing-item a next q = listing-more ∙ rw q

-- the same where a loop has read k of the n items
module _ {A : Type 0} (read : ℕ → Reading A) (n k at : ℕ) where
  pub left_none : n ≤ k → listing read (n - k) at ≡ done at
  left_none h = listing_none read (n - k) at (omega arith)

  module _ (h : k < n) where
    pub left-stop : (e : Refusal) → read at ≡ bad e → listing read (n - k) at ≡ stop e
    left-stop e q = listing-stop read (n - k) at (omega arith) e q

    pub left-item : (a : A) (next : ℕ) → read at ≡ got a next → listing read (n - k) at ≡ item a (listing read (n - (k + 1)) next)
    left-item a next q =
        let e : n - k - 1 ≡ n - (k + 1) = omega arith in
        listing-item read (n - k) at (omega arith) a next q ∙ rw e

-- a test of a list's elements, by the first of them
module _ {A : Type 0} (p : A → Bool) (x : A) (xs : List A) where
  pub any_here : p x ≡ true → any p (x ∷ xs) ≡ true
  unfolding any
  any_here e = rw e

  pub any_next : p x ≡ false → any p (x ∷ xs) ≡ any p xs
  unfolding any
  any_next e = rw e

-- a section, by what its items are
module _ {A : Type 0} (n begin : ℕ) (l : Listing A) where
  pub closed-done : (end : ℕ) → l ≡ done end → Ok (section n begin end) ≡ closed n begin l
  unfolding closed
  closed-done end e = rw e

  pub closed-stop : (e : Refusal) → l ≡ stop e → Err e ≡ closed n begin l
  unfolding closed
  closed-stop e q = rw q

  pub closed-item : (a : A) (rest : Listing A) → l ≡ item a rest → closed n begin rest ≡ closed n begin l
  unfolding closed
  closed-item a rest e = rw e

-- the items of no section, and of one of which nothing is read yet
pub no_items : {A : Type 0} (read : ℕ → Reading A) → section_items read no_section ≡ []
unfolding section_items listing items
no_items read = refl

pub left_all : {A : Type 0} (read : ℕ → Reading A) (x : Section) → items (listing read (x.count - 0) x.begin) ≡ section_items read x
unfolding section_items
left_all read x = rw (sub-zero x.count)

module _ {A : Type 0} (l : Listing A) where
  pub items-done : (end : ℕ) → l ≡ done end → items l ≡ []
  unfolding items
  items-done end e = rw e

  pub items-stop : (e : Refusal) → l ≡ stop e → items l ≡ []
  unfolding items
  items-stop e q = rw q

  pub items-item : (a : A) (rest : Listing A) → l ≡ item a rest → items l ≡ a ∷ items rest
  unfolding items
  items-item a rest e = rw e

-- a test of the items that are left
module _ {A : Type 0} (p : A → Bool) (xs : List A) where
  pub any_none : xs ≡ [] → false ≡ any p xs
  unfolding any
  any_none e = rw e

  pub any_found : (x : A) (rest : List A) → xs ≡ x ∷ rest → p x ≡ true → true ≡ any p xs
  any_found x rest e t = sym (ap (any p) e ∙ any_here p x rest t)

  pub any-passed : (x : A) (rest : List A) → xs ≡ x ∷ rest → p x ≡ false → any p rest ≡ any p xs
  any-passed x rest e t = sym (ap (any p) e ∙ any_next p x rest t)

-- what was not read is refused as the reader says
pub unread : {A : Type 0} (r : Option A) (d e : Refusal) → ok_or r d ≡ Err e → (None ≡ r) × (e ≡ d)
unread None d e q = (refl, cc)
unread (Some x) d e q = cc
