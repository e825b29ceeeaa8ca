use Rattle.archive.specs.Replay.{open_of}
use Rattle.wire.specs.Put.{Written}
use Rattle.wire.specs.State.{state_bytes}
use Rattle.std.specs.Prelude.{Ok}
use mathlib.Core.Path.{◌≡◌, refl, sym, ap, ◌∙◌}
use Rattle.exports.proofs.ReplayLaws.{room, calls-on}
use Rattle.exports.proofs.Laws.{into-ok, tells, numbered_is, was-written, number-some}
use Rattle.exports.proofs.replay.ergo_open.Goals as goal

pub returns-in-Ok : goal.returns-in-Ok
returns-in-Ok c = let w = c.write_state in
    let n = c.number_of in
    let e = sym c.in-Ok.is ∙ c.open.ensures.value ∙ ap (open_of _) c.table_of.ensures in
    let t : n.result ≡ 0 → Written w.result = λ q. was-written w.result _ q n.ensures in record {
      state_after = numbered_is w.result n.ensures (w.ensures.out_after ∙ into-ok state_bytes _ e);
      next_reads = λ q. sym e ∙ ap Ok (sym (w.ensures.reads_back (t q)));
      onward = λ q recs last. calls-on recs _ _ last (rw (← w.ensures.size) (room w.result _ _ _ (t q) w.ensures.out_after)) refl;
    }

pub returns-in-Err : goal.returns-in-Err
returns-in-Err c = let e = sym c.in-Err.is ∙ c.open.ensures.value ∙ ap (open_of _) c.table_of.ensures in
    record {
      state_after = tells state_bytes _ e c.number.ensures;
      next_reads = λ q. absurd (number-some _ (sym c.number.ensures ∙ q));
      onward = λ q. absurd (number-some _ (sym c.number.ensures ∙ q));
    }
