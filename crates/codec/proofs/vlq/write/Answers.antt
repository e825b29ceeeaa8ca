use Rattle.codec.proofs.Laws.VlqTrip.{shortest}
use Rattle.codec.proofs.Laws.Output.{short, done}
use Rattle.codec.proofs.vlq.write.Goals as goal

pub returns-then-out-n : goal.returns-then-out-n
returns-then-out-n c = record {
  out_after = short _ _ _ c.size-n.ensures c.if-out-n.true;
  shortest = shortest _;
}

pub returns : goal.returns
returns c = record {
  out_after = done _ _ _ c.size-n.ensures c.if-out-n.false _ c.put.ensures;
  shortest = shortest _;
}
