use Rattle.std.proofs.Common.{ℕ, ◌+◌, ◌*◌, ◌%◌, ◌^◌, ◌<◌, ap, ◌∙◌, arith, w32, rules}
use Rattle.codec.specs.Signed.{bits_of}
use mir.ValLaws.{to_z-of_z}
use Rattle.voting.proofs.Laws.Integers.{shifted, shifted_sum}
use Rattle.voting.proofs.Laws.Settings.{product}
use Rattle.voting.proofs.fork.epochs_after.Goals as goal

pub overflow_mul-result : goal.overflow_mul-result
overflow_mul-result c = let a = c.args in
    let l : a.length < 2 ^ 32 = search rules in
    let k : a.k < 2 ^ 32 = search rules in
    omega (arith, product a.length a.k l k)

pub overflow_add-result : goal.overflow_add-result
overflow_add-result c = let a = c.args in
    let l : a.length < 2 ^ 32 = search rules in
    let k : a.k < 2 ^ 32 = search rules in
    let s : c.wrapping_add_u32-s.result < 2 ^ 32 = search rules in
    omega (arith, product a.length a.k l k)

pub returns : goal.returns
returns c = let f = c.ranges.start in
    shifted_sum c.args.start c.wrapping_add_u32-s.result (c.args.length * c.args.k)
    (shifted c.args.start f c.wrapping_add_u32-s.result
    (c.wrapping_add_u32-s.ensures.value ∙ ap (λ (m : ℕ). (m + 2147483648) % 4294967296) (c.bits_i32.ensures ∙ ap (bits_of 32) (to_z-of_z w32 c.args.start f))))
