-- Bodies written: what stands at a position of a list of fields, and the fields from a position on.
-- Assumes nothing.
use mathlib.Core.Path.{◌≡◌, ◌∙◌}
use mathlib.Core.Bool.{cond}
use mathlib.Core.List.{List}
use Prim.Native.Nat.{ℕ, zero, suc, ◌+◌, ◌-◌, ◌≤◌, ◌<◌}
use native.Mathlib.Numerals.{sub-one}
use native.Mathlib.Omega.{arith}
use borrow.Author.Tests.{lt-ltb, le-ltb, lt-leb, le-leb}
use lib.Dec.{leb}
use lib.ListN.{length, get_or, drop, length-drop}
use lib.Seq.{length-take-le}
use Rattle.codec.specs.declared.refusal.Refusal.{Refusal}
use Rattle.codec.specs.declared.refusal.Refusal.TheVariants.{FieldHeaderCut, ValueCut}
use Rattle.extension.specs.Section.{got, bad, done, stop, item, after, part}
use Rattle.extension.specs.Body.{Field}
use Rattle.extension.specs.Pack.{wire_at, wire_list}

-- what stands at a position of a list of fields
module _ (s : List ℕ) (at : ℕ) where
  -- the value's length, the position after it, and the field
  abbrev pub size_at : ℕ
  size_at = get_or s (at + 2) 0

  abbrev pub field_there : Field
  field_there = record { key0 = get_or s at 0; key1 = get_or s (at + 1) 0; value = part s (at + 3) (at + 3 + size_at) }

  pub wire-header-cut : length s < at + 3 → wire_at s at ≡ bad FieldHeaderCut
  unfolding wire_at
  wire-header-cut h = rw (lt-ltb (length s) (at + 3) h)

  pub wire-value-cut : at + 3 ≤ length s → length s < at + 3 + size_at → wire_at s at ≡ bad ValueCut
  unfolding wire_at
  wire-value-cut h k = rw (le-ltb (length s) (at + 3) h, lt-ltb (length s) (at + 3 + size_at) k)

  pub wire-here : at + 3 + size_at ≤ length s → wire_at s at ≡ got field_there (at + 3 + size_at)
  unfolding wire_at
  wire-here k = let h : at + 3 ≤ length s = omega arith in rw (le-ltb (length s) (at + 3) h, le-ltb (length s) (at + 3 + size_at) k)

  pub value-length : at + 3 + size_at ≤ length s → length field_there.value ≡ size_at
  value-length k =
      let e : at + 3 + size_at - (at + 3) ≡ size_at = omega arith in
      rw e (length-take-le size_at (drop (at + 3) s) (rw (length-drop (at + 3) s) (omega arith)))

-- the fields from a position on, at most n of them
module _ (s : List ℕ) (n at : ℕ) where
  pub wire-none : n ≤ 0 → wire_list n s at ≡ done at
  unfolding wire_list
  wire-none h = let e : n ≡ 0 = omega arith in rw e

  module _ (h : 0 < n) where
    by_one : wire_list n s at ≡ cond (leb (length s) at) (done at) (after (wire_at s at) (wire_list (n - 1) s))
    unfolding wire_list
    by_one = go n h
      where
        go : (k : ℕ) → 0 < k → wire_list k s at ≡ cond (leb (length s) at) (done at) (after (wire_at s at) (wire_list (k - 1) s))
        go zero h = absurd (omega arith)
        go (suc k) h = rw sub-one

    pub wire-end : length s ≤ at → wire_list n s at ≡ done at
    wire-end l = by_one ∙ rw (le-leb (length s) at l)

    pub wire-stop : at < length s → (e : Refusal) → wire_at s at ≡ bad e → wire_list n s at ≡ stop e
    unfolding after
    wire-stop l e q = by_one ∙ rw (lt-leb (length s) at l, q)

    pub wire-item : at < length s → (f : Field) (next : ℕ) → wire_at s at ≡ got f next → wire_list n s at ≡ item f (wire_list (n - 1) s next)
    unfolding after
    wire-item l f next q = by_one ∙ rw (lt-leb (length s) at l, q)
