use Rattle.std.proofs.Common.{arith}
use Rattle.codec.proofs.Laws.VlqTrip.{at-most-ten}
use Rattle.writers.proofs.Laws.Encode.{status-size}
use Rattle.writers.proofs.encode.status_size.Goals as goal

pub overflow_add-result : goal.overflow_add-result
overflow_add-result c = omega (arith, c.size.ensures, c.size-2.ensures, at-most-ten c.wire_offset-offset.result.0, at-most-ten c.args.size)

pub overflow_add-result-2 : goal.overflow_add-result-2
overflow_add-result-2 c = omega (arith, c.size.ensures, c.size-2.ensures, at-most-ten c.wire_offset-offset.result.0, at-most-ten c.args.size)

pub overflow_add-result-3 : goal.overflow_add-result-3
overflow_add-result-3 c = omega (arith, c.size.ensures, c.size-2.ensures, at-most-ten c.wire_offset-offset.result.0, at-most-ten c.args.size, c.ranges.size)

pub returns : goal.returns
returns c = status-size c.args.rule.0 c.args.size (omega (arith, c.ranges.size)) c.wire_offset-offset.ensures.result_value c.size.ensures c.size-2.ensures
