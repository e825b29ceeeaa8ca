-- Rule ids and offsets, there and back.
-- Assumes nothing.
use Rattle.std.proofs.Common.{◌≡◌, ℕ, ◌+◌, ◌-◌, ◌%◌, ◌<◌, ◌≤◌, ℤ, pos, negsuc, sym, refl, ap, ◌∙◌, arith, w16, SFits, le-ltb}
use mir.ValLaws.{to_z-Fits}
use Rattle.codec.specs.Signed.{modulo, bits_of, signed_of, wrapped}
use Rattle.codec.specs.Rule.{rule_of, offset_of}
use Rattle.codec.proofs.Laws.Signed.{to_z-is, of_z-is, add_wraps, bits_back, bits_fit, signed_back}

-- the offset by the bits of the id
offset-bits : (z : ℤ) → SFits w16 z → offset_of z ≡ (bits_of 16 z + 64536) % 65536
unfolding offset_of
offset-bits z f = sym (rw (← of_z-is w16 z f) (add_wraps w16 z (negsuc 999) f (record { sfits = omega arith })))

-- what is 1,000 less, wrapped, is the offset
pub offset-is : (z : ℤ) → SFits w16 z → {n r : ℕ} → n ≡ bits_of 16 z → r < 65536 → (r + 1000) % 65536 ≡ n → r ≡ offset_of z
offset-is z f p h e = omega (arith, bits_fit w16 z f, e, p) ∙ sym (offset-bits z f)

pub offset-fits : (z : ℤ) → SFits w16 z → offset_of z < 65536
offset-fits z f = rw (offset-bits z f) (omega arith)

-- from 1,000 to 32,767 the offset is the id less 1,000
pub offset-plain : (n : ℕ) → 1000 ≤ n → n ≤ 32767 → offset_of (pos n) ≡ n - 1000
unfolding offset_of bits_of modulo
offset-plain n h k = rw (le-ltb n 1000 h) (omega arith)

-- an id's offset stands for the id, and the offset of a rule is the offset that it was made of
pub rule-back : (z : ℤ) → SFits w16 z → rule_of (offset_of z) ≡ z
unfolding rule_of wrapped bits_of modulo
rule-back z f =
    let e : (offset_of z + 1000) % 65536 ≡ bits_of 16 z = omega (arith, offset-bits z f, bits_fit w16 z f) in
    ap (signed_of 16) e ∙ bits_back w16 z f

bits-natural : (n : ℕ) → bits_of 16 (pos n) ≡ n % 65536
unfolding bits_of modulo
bits-natural n = refl

pub offset-back : (v : ℕ) → v < 65536 → offset_of (rule_of v) ≡ v
unfolding rule_of wrapped
offset-back v h =
    let n = bits_of 16 (pos (v + 1000)) in
    let k : n ≡ (v + 1000) % 65536 = bits-natural (v + 1000) in
    let l : n < 65536 = omega (arith, k) in
    let f : SFits w16 (signed_of 16 n) = rw (← to_z-is w16 n) (to_z-Fits w16 n (record { fits = l })) in
    offset-bits (signed_of 16 n) f ∙ rw (signed_back w16 n l) (omega (arith, k))
