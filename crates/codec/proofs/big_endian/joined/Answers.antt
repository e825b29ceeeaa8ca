use Rattle.std.proofs.Common.{[], ◌∷◌, refl, ap, ◌∙◌, rules}
use Rattle.codec.specs.BigEndian.{big_endian_bytes}
use Rattle.codec.proofs.Laws.BigEndian.{from_bytes-is, bytes-of-number, four-small}
use Rattle.codec.proofs.big_endian.joined.Goals as goal

pub returns : goal.returns
returns c = let a = c.args in
    let bs = a.a ∷ a.b ∷ a.c ∷ a.d ∷ [] in
    let v = c.from_be_bytes.ensures ∙ from_bytes-is bs refl in
    record {
      value = v;
      back = ap (big_endian_bytes 4) v ∙ bytes-of-number bs (four-small a.a a.b a.c a.d (search rules) (search rules) (search rules) (search rules));
    }
