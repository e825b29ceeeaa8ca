use mathlib.Core.Path.{sym, ap}
use lib.ListN.{length}
use Rattle.wire.proofs.MapLaws.{present-none, present-five}
use Rattle.wire.proofs.map.present_size.Goals as goal

pub returns-in-None : goal.returns-in-None
returns-in-None c = sym (ap length (present-none _ _ c.in-None.is))

pub returns-in-Some : goal.returns-in-Some
returns-in-Some c = present-five _ _ _ c.in-Some.is
