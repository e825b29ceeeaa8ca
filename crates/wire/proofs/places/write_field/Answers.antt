use mathlib.Core.Path.{ap}
use Rattle.wire.specs.Numbers.{number_bytes}
use Rattle.wire.specs.Places.{field_bytes}
use Rattle.wire.proofs.Laws.{handed, renamed, four_same}
use borrow.Author.Rules.{rules}
use Rattle.wire.proofs.places.write_field.Goals as goal

pub returns : goal.returns
unfolding field_bytes
returns c = let put = renamed (four_same _ _ _ _ _ _ (ap number_bytes c.from.ensures) (ap number_bytes c.from-2.ensures)) c.put_four.ensures in record {
  out_after = handed put (search rules) _ c.write_bytes.ensures;
  size = put.long;
}
