use mathlib.Core.Path.{refl}
use Rattle.wire.specs.Places.{record_bytes}
use Rattle.wire.proofs.Laws.{handed, joined, renamed, four_same, low-bytes}
use borrow.Author.Rules.{rules}
use Rattle.wire.proofs.places.write_record.Goals as goal

pub returns : goal.returns
unfolding record_bytes
returns c = let put = joined (renamed (four_same _ _ _ _ _ _ refl (low-bytes _ _ refl)) c.put_four.ensures) c.put_usize.ensures in record {
  out_after = handed put (search rules) _ c.write_bytes.ensures;
  size = put.long;
}
