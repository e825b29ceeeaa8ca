use Rattle.std.proofs.Common.{refl}
use Rattle.replay_io.proofs.Laws.{unmoved}
use Rattle.replay_io.proofs.unmoved.Goals as goal

pub returns : goal.returns
returns c = (unmoved _ _ _ c.no_input.ensures _ c.no_output.ensures ⊥, refl)
