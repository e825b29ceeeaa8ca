use Rattle.stream.specs.Run.{ends_by, after_replay}
use Rattle.std.proofs.Common.{ap, sym, ◌∙◌}
use Rattle.stream.proofs.run.after_replay.Goals as goal

pub returns-in-Err : goal.returns-in-Err
unfolding after_replay
returns-in-Err c = let a = c.args in c.ends_by.ensures ∙ ap (ends_by a.run a.used) c.number.ensures ∙ ap (after_replay a.run a.height a.used) (sym c.in-Err.is)
