use Rattle.archive.specs.Replay.{replay_of}
use Rattle.archive.specs.declared.replay.Replay.{Replay}
use Rattle.std.specs.Prelude.{Ok}
use mathlib.Core.Path.{sym, ap, ◌∙◌}
use Rattle.exports.proofs.Laws.{numbered_is, was-written}
use Rattle.exports.proofs.ReplayLaws.{zero-written, accepted-into, turned, told-of, told-none, turned-some}
use Rattle.exports.proofs.replay.ergo_replay.Goals as goal

pub returns-in-Ok : goal.returns-in-Ok
returns-in-Ok c = let w = c.write_state in
    let n = c.number_of in
    let e = sym c.in-Ok.is ∙ c.replay.ensures.value ∙ ap (λ (s : Replay). replay_of s c.args.rec.now) c.state_of-before.ensures in
    record {
      answers = numbered_is w.result n.ensures w.ensures.out_after ∙ accepted-into e _;
      next-reads = λ z. sym e ∙ ap Ok (sym (w.ensures.reads_back (was-written w.result _ z n.ensures)));
      told = λ f. told-none e (zero-written w.result _ _ _ _ (rw w.ensures.size f) n.ensures w.ensures.out_after);
    }

pub returns-in-Err : goal.returns-in-Err
returns-in-Err c = let e = sym c.in-Err.is ∙ c.replay.ensures.value ∙ ap (λ (s : Replay). replay_of s c.args.rec.now) c.state_of-before.ensures in
    record {
      answers = turned e c.number.ensures c.id.ensures c.with_id.ensures.value _;
      next-reads = λ z. absurd (turned-some _ c.number.ensures (c.with_id.ensures.told) z);
      told = λ f. told-of e c.number.ensures c.id.ensures c.with_id.ensures.told;
    }
