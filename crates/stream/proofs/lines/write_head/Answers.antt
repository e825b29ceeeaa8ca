use Rattle.stream.specs.Lines.{head_line}
use Rattle.stream.proofs.lines.write_head.Goals as goal

pub returns : goal.returns
unfolding head_line
returns c = c.hand_out.ensures
