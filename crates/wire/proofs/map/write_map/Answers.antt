use Rattle.extension.proofs.Laws.PackTrip.{all_held}
use Rattle.codec.proofs.Laws.Output.{short, done}
use Rattle.extension.specs.Parameters.{entry_of}
use Rattle.wire.proofs.MapLaws.{map_back}
use Rattle.wire.proofs.map.write_map.Goals as goal

pub returns-then-out-n : goal.returns-then-out-n
unfolding entry_of
returns-then-out-n c = record {
  out_after = short _ _ _ c.map_size-n.ensures c.if-out-n.true;
  reads_back = map_back c.args.m (all_held c.args.m.entries _ c.well_formed.0.1.1.0.1.1);
}

pub returns : goal.returns
unfolding entry_of
returns c = record {
  out_after = done _ _ _ c.map_size-n.ensures c.if-out-n.false _ c.put_map.ensures;
  reads_back = map_back c.args.m (all_held c.args.m.entries _ c.well_formed.0.1.1.0.1.1);
}
