use Rattle.std.proofs.Common.{◌≡◌, length, ℤ, ap, ◌∙◌, w32, to_z, of_z, rules}
use mir.ValLaws.{to_z-of_z}
use Rattle.codec.specs.BigEndian.{big_endian, big_endian_bytes}
use Rattle.codec.specs.Signed.{bits_of, signed_of}
use Rattle.codec.proofs.Laws.Signed.{to_z-is}
use Rattle.codec.proofs.Laws.BigEndian.{bytes_back, from_bytes-is}
use Rattle.codec.proofs.big_endian.i32_from_be_bytes.Goals as goal

pub returns : goal.returns
returns c = let bs = c.args.bytes in
    let r = c.from_be_bytes.result in
    let l : length bs ≡ 4 = search rules in
    let v : to_z w32 (of_z w32 r) ≡ signed_of 32 (big_endian bs) =
    to_z-of_z w32 r (search rules) ∙ c.from_be_bytes.ensures ∙ to_z-is w32 _ ∙ ap (signed_of 32) (from_bytes-is bs l) in
    record {
      value = v;
      back = ap (λ (z : ℤ). big_endian_bytes 4 (bits_of 32 z)) v ∙ bytes_back bs l (search rules);
    }
