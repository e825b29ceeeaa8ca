use Rattle.extension.proofs.Laws.PackTrip.{all_held}
use Rattle.codec.proofs.Laws.Output.{short, done}
use Rattle.extension.specs.Parameters.{entry_of}
use Rattle.writers.specs.Pack.{pack_parameters}
use Rattle.writers.proofs.Laws.PackTrip.{parameters-back}
use Rattle.writers.proofs.pack.pack_parameters_to_kv.Goals as goal

pub returns-then-out-n : goal.returns-then-out-n
unfolding pack_parameters entry_of
returns-then-out-n c = record {
  out_after = short _ _ _ c.entries_size-n.ensures c.if-out-n.true;
  reads_back = λ header l. parameters-back c.args.params header l (all_held c.args.params.entries _ c.well_formed.0.1.1.0.1.1);
}

pub returns : goal.returns
unfolding pack_parameters entry_of
returns c = record {
  out_after = done _ _ _ c.entries_size-n.ensures c.if-out-n.false _ c.put_entries.ensures;
  reads_back = λ header l. parameters-back c.args.params header l (all_held c.args.params.entries _ c.well_formed.0.1.1.0.1.1);
}
