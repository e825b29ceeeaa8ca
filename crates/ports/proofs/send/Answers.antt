use Rattle.ports.proofs.Laws.{sent-whole, write-failed}
use Rattle.ports.proofs.send.Goals as goal

pub returns-in-Ok-clause-booked : goal.returns-in-Ok-clause-booked
returns-in-Ok-clause-booked g c = let a = c.args in sent-whole a.output a.text.now _ c.handed.ensures

pub returns-in-Err-clause-booked : goal.returns-in-Err-clause-booked
returns-in-Err-clause-booked g c = let a = c.args in write-failed a.output a.text.now _ c.handed-in-Err.ensures
