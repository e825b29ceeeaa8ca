use Rattle.wire.specs.Places.{update_bytes}
use Rattle.wire.proofs.Back.{update-back}
use Rattle.wire.proofs.Laws.{joined}
use Rattle.wire.proofs.places.put_update.Goals as goal

pub returns : goal.returns
unfolding update_bytes
returns c = let rules = c.put_section in
    let statuses = c.put_section-2 in record {
      put = joined rules.ensures.put statuses.ensures.put;
      back = λ r s. update-back _ rules.ensures.put.long (rules.ensures.back r) (statuses.ensures.back s);
    }
