use Rattle.ports.proofs.Laws.{received, end-met, read-failed}
use Rattle.ports.proofs.receive.Goals as goal

pub returns-in-Ok-eq0-clause-booked : goal.returns-in-Ok-eq0-clause-booked
returns-in-Ok-eq0-clause-booked g c = (end-met c.args.input c.read_on.new.buf _ c.stopped.ensures).1

pub returns-in-Ok-clause-booked : goal.returns-in-Ok-clause-booked
returns-in-Ok-clause-booked g c = (received c.args.input c.read_on.new.buf _ c.in-Ok.n c.reached.ensures c.in-Ok.n-test.1 c.in-Ok.ensures.bound).1

pub returns-in-Err-clause-booked : goal.returns-in-Err-clause-booked
returns-in-Err-clause-booked g c = (read-failed c.args.input c.read_on.new.buf _ c.stopped-in-Err.ensures).1
