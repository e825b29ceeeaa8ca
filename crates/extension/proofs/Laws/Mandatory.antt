-- The flags of the mandatory rules, and the sign of a rule's id. Assumes nothing.
use Prim.Native.Nat.{ℕ, zero, suc, ◌+◌, ◌<◌, ◌≤◌}
use native.Mathlib.Nat.{add-zero, zero-add, add-suc, suc-add, le_of_suc-le-suc, not-suc-le-zero}
use native.Mathlib.Omega.{arith}
use mathlib.Core.Path.{◌≡◌, refl, ap, subst⁻¹, ◌∙◌}
use mathlib.Core.Bool.{Bool, true, false, and-false}
use mathlib.Core.List.{List}
use lib.ListN.{get_or, get_or-eq_default}
use lib.Dec.{ltb, leb, eqb}
use borrow.Author.Tests.{ltb-true, ltb-false, lt-leb, ne_eqb}
use Rattle.voting.proofs.Laws.Tests.{by-test}
use lib.IntN.{ℤ, pos, nat_abs}
use lib.Signed.{lt_z}
use mir.Syntax.{w32}
use mir.Val.{SFits, to_z, of_z}
use mir.ValLaws.{to_z-of_z}
use Rattle.codec.proofs.Laws.Signed.{is-neg, not_neg}
use Rattle.extension.specs.Mandatory.{mandatory_rule, flags_from, mandatory_flags, mandatory}

past-rule : (id : ℕ) → 512 ≤ id → false ≡ mandatory_rule id
unfolding mandatory_rule
past-rule id h =
    let range : (greatest : ℕ) → ltb greatest 512 ≡ true → leb id greatest ≡ false = λ greatest t. lt-leb id greatest (omega (arith, ltb-true)) in
    let one : (k : ℕ) → ltb k 512 ≡ true → eqb id k ≡ false = λ k t. ne_eqb id k (λ e. omega (arith, ltb-true)) in
    simp (
      range 109 refl,
      range 117 refl,
      one 119 refl,
      one 122 refl,
      one 200 refl,
      one 201 refl,
      range 211 refl,
      one 213 refl,
      one 214 refl,
      one 216 refl,
      range 305 refl,
      one 307 refl,
      one 403 refl,
      one 500 refl,
      one 501 refl,
      and-false,
    )

flag_at : (id n k : ℕ) → k < n → get_or (flags_from id n) k false ≡ mandatory_rule (id + k)
flag_at id zero k h = absurd (not-suc-le-zero h)
flag_at id (suc n) zero h = rw add-zero
flag_at id (suc n) (suc k) h = rw (add-suc, ← suc-add) (flag_at (suc id) n k (le_of_suc-le-suc h))

-- the table's rule, past the table and in it
past : (id : ℕ) → 512 ≤ id → get_or mandatory_flags id false ≡ mandatory_rule id
unfolding mandatory_flags
past id h = get_or-eq_default mandatory_flags false h ∙ past-rule id h

within : (id : ℕ) → id < 512 → get_or mandatory_flags id false ≡ mandatory_rule id
unfolding mandatory_flags
within id h = rw zero-add at (flag_at 0 512 id h)

pub flag-of : (flags : List Bool) (id : ℕ) → flags ≡ mandatory_flags → get_or flags id false ≡ mandatory_rule id
flag-of flags id e =
    ap (λ (l : List Bool). get_or l id false) e
    ∙ by-test (ltb id 512) (λ t. within id (ltb-true id 512 t)) (λ t. past id (ltb-false id 512 t))

module _ (z : ℤ) (f : SFits w32 z) where
  pub below-zero : lt_z (to_z w32 (of_z w32 z)) (pos 0) ≡ true → false ≡ mandatory z
  unfolding mandatory
  below-zero t = subst⁻¹ (λ (y : ℤ). false ≡ mandatory y) (is-neg w32 z f t) refl

  pub from_zero : lt_z (to_z w32 (of_z w32 z)) (pos 0) ≡ false → mandatory_rule (nat_abs (to_z w32 (of_z w32 z))) ≡ mandatory z
  unfolding mandatory
  from_zero t =
      ap (λ (y : ℤ). mandatory_rule (nat_abs y)) (to_z-of_z w32 z f)
      ∙ subst⁻¹ (λ (y : ℤ). mandatory_rule (nat_abs y) ≡ mandatory y) (not_neg w32 z f t) refl
