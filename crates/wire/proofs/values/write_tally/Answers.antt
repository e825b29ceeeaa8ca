use Rattle.wire.proofs.Back.{reads-back}
use Rattle.wire.proofs.Laws.{handed}
use borrow.Author.Rules.{rules}
use Rattle.wire.proofs.values.write_tally.Goals as goal

pub returns : goal.returns
returns c = let put = c.put_tally in
    let e = handed put.ensures.put (search rules) _ c.write_bytes.ensures in
    record {
      out_after = e;
      reads_back = reads-back put.ensures.back c.write_bytes.result _ _ e;
      size = put.ensures.put.long;
    }
