use Rattle.ports.specs.Ports.{unwritten-is}
use Rattle.ports.proofs.no_output.Goals as goal

pub returns : goal.returns
returns c = unwritten-is _
