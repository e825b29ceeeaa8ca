use Rattle.wire.specs.State.{state_bytes}
use Rattle.wire.proofs.Back.{state-back}
use Rattle.wire.proofs.Laws.{joined}
use Rattle.wire.proofs.state.put_state.Goals as goal

pub returns : goal.returns
unfolding state_bytes
returns c = let settings = c.put_settings in
    let table = c.put_table in
    let next = c.put_u32 in
    let tally = c.put_tally in record {
      put = joined (joined (joined settings.ensures.put table.ensures.put) next.ensures.put) tally.ensures.put;
      back = state-back _ settings.ensures.put.long table.ensures.put.long settings.ensures.back table.ensures.back next.ensures.back tally.ensures.back;
    }
