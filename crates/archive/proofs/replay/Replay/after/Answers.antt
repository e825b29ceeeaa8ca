use Rattle.std.proofs.Common.{ap, ◌∙◌}
use Rattle.std.specs.Result.{result_unwrap_or}
use Rattle.archive.specs.Replay.{state_by}
use Rattle.archive.proofs.replay.Replay.after.Goals as goal

pub returns : goal.returns
unfolding state_by
returns c = c.unwrap_or.ensures ∙ ap (λ r. result_unwrap_or r c.args.self) c.replay.ensures.value
