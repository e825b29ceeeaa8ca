use mathlib.Core.Path.{ap}
use Rattle.wire.specs.Numbers.{number_bytes}
use Rattle.wire.specs.Places.{rule_bytes}
use Rattle.wire.proofs.Laws.{handed, joined, renamed}
use borrow.Author.Rules.{rules}
use Rattle.wire.proofs.places.write_rule.Goals as goal

pub returns : goal.returns
unfolding rule_bytes
returns c = let put = joined (renamed (ap number_bytes c.from.ensures) c.put_u32.ensures.put) c.put_usize.ensures in record {
  out_after = handed put (search rules) _ c.write_bytes.ensures;
  size = put.long;
}
