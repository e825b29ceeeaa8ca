-- How a boundary moves the ordinary parameters, by the votes that were counted in the epoch before. docs/RULES.md, "Steps over the years".
-- Assumes nothing.
use Rattle.std.specs.Prelude.{◌≡◌, ℕ, ◌-◌, ◌<◌, ◌≤◌, true, ◌↔◌, List, ℤ, ◌+ℤ◌, ◌-ℤ◌, int_lt, Some}
use Rattle.voting.specs.Value.{Value}
use Rattle.voting.specs.declared.table.Table.{Table}
use Rattle.voting.specs.Table.{lookup}
use Rattle.voting.specs.Tally.{counted_for}
use Rattle.voting.specs.Ordinary.{least_of, greatest_of, fixed_step_of, step_size}

-- one step of the parameter p from the value z
abbrev pub step_of : ℕ → ℤ → ℤ
step_of p z = step_size (fixed_step_of p) z

-- p stood at z below its greatest value, and in the epoch with these vote bytes more than `half` votes for p were counted
abbrev pub Up : ℕ → List ℕ → ℕ → ℤ → Type 0
Up half epoch p z = (int_lt z (greatest_of p) ≡ true) × (half < counted_for p epoch)

-- p stood at z above its least value, and more than `half` votes for -p were counted, whose byte is 256 - p
abbrev pub Down : ℕ → List ℕ → ℕ → ℤ → Type 0
Down half epoch p z = (int_lt (least_of p) z ≡ true) × (half < counted_for (256 - p) epoch)

-- what becomes of p: one step up exactly in the first case, one step down exactly in the second; both are never so; in neither it stays
pub record Step (half : ℕ) (epoch : List ℕ) (p : ℕ) (z : ℤ) (new : Value) : Type 0 where
  pub up : (new ≡ Some (z +ℤ step_of p z)) ↔ Up half epoch p z
  pub down : (new ≡ Some (z -ℤ step_of p z)) ↔ Down half epoch p z
  pub not-both : Up half epoch p z → Down half epoch p z → ⊥
  pub stays : (Up half epoch p z → ⊥) → (Down half epoch p z → ⊥) → new ≡ Some z

-- so of each ordinary parameter that the old table has
abbrev pub Stepped : ℕ → List ℕ → Table → Table → Type 0
Stepped half epoch old new = (p : ℕ) → 1 ≤ p → p ≤ 9 → (z : ℤ) → lookup old p ≡ Some z → Step half epoch p z (lookup new p)
