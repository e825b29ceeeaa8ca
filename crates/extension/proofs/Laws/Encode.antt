-- An update that a writer takes: none of its tests refuses.
-- Assumes nothing.
use mathlib.Core.Path.{◌≡◌}
use mathlib.Core.Bool.{Bool, false}
use mathlib.Core.List.{List}
use Prim.Native.Nat.{ℕ, ◌≤◌}
use borrow.Author.Tests.{le-ltb, eq-eqb}
use lib.Dec.{ltb}
use lib.IntN.{ℤ}
use lib.ListN.{length}
use Rattle.codec.specs.Check.{passed}
use Rattle.extension.specs.Section.{any}
use Rattle.extension.specs.Encode.{sum, agree, low_rule, too_large, check_update}

-- no refusal, by the tests
module _ (rules : List ℕ) (ids : List ℤ) (codes sizes : List ℕ) (h₁ : length rules ≤ 65536) (h₂ : length ids ≤ 65536) (h₃ : length codes ≤ 65536) (h₄ : length sizes ≤ 65536) where
  pub large_is : too_large rules ids codes sizes ≡ any (ltb 65535) sizes
  unfolding too_large
  large_is = rw (le-ltb 65536 (length rules) h₁, le-ltb 65536 (length ids) h₂, le-ltb 65536 (length codes) h₃, le-ltb 65536 (length sizes) h₄)

pub none-refused : (rules : List ℕ) (ids : List ℤ) (codes sizes raw : List ℕ) → length rules ≤ 65536 → length ids ≤ 65536 → length codes ≤ 65536 → length sizes ≤ 65536
    → {a : Bool} → a ≡ any (ltb 65535) sizes → a ≡ false → {b : Bool} → b ≡ any low_rule ids → b ≡ false → length codes ≡ length ids → length sizes ≡ length ids
    → {n : ℕ} → n ≡ sum sizes → n ≡ length raw → passed ≡ check_update rules ids codes sizes raw
unfolding check_update agree
none-refused rules ids codes sizes raw h₁ h₂ h₃ h₄ q h₅ r h₆ h₇ h₈ {n} s h =
    rw (
      large_is rules ids codes sizes h₁ h₂ h₃ h₄,
      ← q,
      h₅,
      ← r,
      h₆,
      eq-eqb (length codes) (length ids) h₇,
      eq-eqb (length sizes) (length ids) h₈,
      ← s,
      eq-eqb n (length raw) h,
    )
