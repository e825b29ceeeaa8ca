-- A product that fits, and the limit of a fork total.
-- Assumes nothing.
use Rattle.std.proofs.Common.{◌≡◌, ℕ, ◌-◌, ◌*◌, ◌/◌, ◌%◌, ◌^◌, ◌<◌, ◌≤◌, true, false, T, ltb, ℤ, pos, negsuc, nat_abs, refl, mul-le-mul, arith, w32, w64, Fits, SFits, to_z, of_z, ltb-true}
use lib.Signed.{lt_z, non_neg}
use mir.ValLaws.{to_z-of_z}
use Rattle.codec.proofs.Laws.Signed.{pos-cast}
use Rattle.voting.specs.declared.settings.VotingConfig.{VotingConfig}
use Rattle.voting.specs.Settings.{voting_length, vote_epochs, fork_limit, soft_fork_approved}

-- a product of two numbers of 32 bits leaves room for a third
pub product : (a b : ℕ) → a < 2 ^ 32 → b < 2 ^ 32 → a * b ≤ 18446744065119617025
product a b f g = mul-le-mul (let q : a ≤ 4294967295 = omega arith in q) (let q : b ≤ 4294967295 = omega arith in q)

-- nine tenths, rounded down, without the product by 9
pub limit-even : (g : VotingConfig) → (voting_length g * vote_epochs g) % 10 ≡ 0 → voting_length g * vote_epochs g - voting_length g * vote_epochs g / 10 ≡ fork_limit g
unfolding fork_limit
limit-even g h = go (voting_length g * vote_epochs g) h
  where
    go : (p : ℕ) → p % 10 ≡ 0 → p - p / 10 ≡ p * 9 / 10
    go p h = omega arith

pub limit-odd : (g : VotingConfig) → ((voting_length g * vote_epochs g) % 10 ≡ 0 → ⊥) → voting_length g * vote_epochs g - voting_length g * vote_epochs g / 10 - 1 ≡ fork_limit g
unfolding fork_limit
limit-odd g h = go (voting_length g * vote_epochs g) h
  where
    go : (p : ℕ) → (p % 10 ≡ 0 → ⊥) → p - p / 10 - 1 ≡ p * 9 / 10
    go p h = omega arith

-- a total below 0 is never approved; another is compared as a natural number
below-zero : (k : ℕ) (z : ℤ) → lt_z z (pos 0) ≡ true → false ≡ lt_z (pos k) z
below-zero k (pos a) e = absurd (omega (arith, ltb-true))
below-zero k (negsuc a) e = refl

from_zero : (k : ℕ) (z : ℤ) → lt_z z (pos 0) ≡ false → ltb k (nat_abs z) ≡ lt_z (pos k) z
from_zero k (pos a) e = refl
from_zero k (negsuc a) e = absurd (let q : ◌≡◌ {A = ℕ} 0 1 = cc in omega arith)

module _ (g : VotingConfig) (z : ℤ) (f : SFits w32 z) where
  pub not-approved : lt_z (to_z w32 (of_z w32 z)) (pos 0) ≡ true → false ≡ soft_fork_approved g z
  unfolding soft_fork_approved
  not-approved t = below-zero (fork_limit g) z (rw (to_z-of_z w32 z f) at t)

  pub approved-by : (n : ℕ) → n ≡ fork_limit g → lt_z (to_z w32 (of_z w32 z)) (pos 0) ≡ false → ltb n (nat_abs (to_z w32 (of_z w32 z))) ≡ soft_fork_approved g z
  unfolding soft_fork_approved
  approved-by n e t = rw (to_z-of_z w32 z f, e) (from_zero (fork_limit g) z (rw (to_z-of_z w32 z f) at t))

  pub cast-64 : lt_z (to_z w32 (of_z w32 z)) (pos 0) ≡ false → T (non_neg (to_z w32 (of_z w32 z))) × Fits w64 (nat_abs (to_z w32 (of_z w32 z)))
  cast-64 t = let p = pos-cast w32 z f t in (p.0, omega (arith, p.1))
