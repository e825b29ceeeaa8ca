use Rattle.wire.proofs.Back.{reads-back}
use Rattle.wire.proofs.Laws.{handed}
use borrow.Author.Rules.{rules}
use Rattle.wire.proofs.places.write_section.Goals as goal

pub returns : goal.returns
returns c = let put = c.put_section in
    let e = handed put.ensures.put (search rules) _ c.write_bytes.ensures in
    record {
      out_after = e;
      reads_back = λ w n. reads-back (put.ensures.back n) c.write_bytes.result _ _ e w;
      size = put.ensures.put.long;
    }
