use Rattle.std.proofs.Common.{ℕ, List, ap, ◌∙◌, w32, of_z}
use mir.ValLaws.{to_z-of_z}
use Rattle.codec.specs.BigEndian.{big_endian, big_endian_bytes}
use Rattle.codec.specs.Signed.{signed_of}
use Rattle.codec.proofs.Laws.Signed.{of_z-is}
use Rattle.codec.proofs.Laws.BigEndian.{to_bytes-is, number-back}
use Rattle.codec.proofs.big_endian.i32_to_be_bytes.Goals as goal

pub returns : goal.returns
returns c = let x = c.args.x in
    let f = c.ranges.x in
    let is = c.to_be_bytes.ensures ∙ to_bytes-is _ ∙ ap (big_endian_bytes 4) (ap (of_z w32) (to_z-of_z w32 x f) ∙ of_z-is w32 x f) in
    record {
      value = is;
      back = ap (λ (bs : List ℕ). signed_of 32 (big_endian bs)) is ∙ number-back x f;
    }
