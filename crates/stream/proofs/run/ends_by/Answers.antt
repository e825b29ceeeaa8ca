use Rattle.stream.proofs.Laws.Run.{ends_with}
use Rattle.stream.proofs.run.ends_by.Goals as goal

pub returns : goal.returns
returns c = let a = c.args in ends_with a.run _ _ a.used a.n c.end_run.ensures c.end_print.ensures
