use Rattle.wire.specs.Boundary.{computed_bytes}
use Rattle.wire.proofs.Laws.{handed, joined}
use borrow.Author.Rules.{rules}
use Rattle.wire.proofs.boundary.write_computed.Goals as goal

pub returns : goal.returns
unfolding computed_bytes
returns c = let put = joined c.put_table.ensures.put c.put_update.ensures.put in record {
  out_after = handed put (search rules) _ c.write_bytes.ensures;
  size = put.long;
}
