use Rattle.ports.specs.Ports.{unread-is}
use Rattle.ports.proofs.no_input.Goals as goal

pub returns : goal.returns
returns c = unread-is _
