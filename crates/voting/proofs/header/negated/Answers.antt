use Rattle.std.proofs.Common.{ℤ, ap, ◌∙◌, w8, rules}
use mir.ValLaws.{to_z-of_z}
use Rattle.codec.specs.Signed.{bits_of}
use Rattle.voting.specs.Header.{negation}
use Rattle.voting.proofs.header.negated.Goals as goal

pub returns : goal.returns
unfolding negation
returns c = let i = c.i8_of in
    let n = c.wrapping_neg_i8 in
    c.bits_i8.ensures ∙
    ap (bits_of 8) (to_z-of_z w8 n.result (search rules) ∙ n.ensures) ∙
    ap (λ (z : ℤ). bits_of 8 (negation z)) (to_z-of_z w8 i.result (search rules) ∙ i.ensures)
