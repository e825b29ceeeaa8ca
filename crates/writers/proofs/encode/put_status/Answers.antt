use Rattle.std.proofs.Common.{length, sym, rules}
use Rattle.codec.proofs.Laws.VlqTrip.{at-most-ten}
use Rattle.codec.proofs.Laws.Output.{sets-out}
use Rattle.extension.specs.Encode.{status_bytes}
use Rattle.writers.proofs.Laws.Encode.{status-put}
use Rattle.writers.proofs.encode.put_status.Goals as goal

pub returns-then-out-at : goal.returns-then-out-at
returns-then-out-at c = let a = c.args in
    sym (sets-out (status_bytes (record { rule = a.rule.0; code = a.code; raw = a.raw.now })) a.out.now a.at c.if-out-at.true)

pub overflow_add-second : goal.overflow_add-second
overflow_add-second c = let z = at-most-ten c.wire_offset-wire.result.0 in
    search rules

pub overflow_add-third : goal.overflow_add-third
overflow_add-third c = let y = at-most-ten c.wire_offset-wire.result.0 in
    let z = at-most-ten (length c.args.raw.now) in
    search rules

pub overflow_add-third-2 : goal.overflow_add-third-2
overflow_add-third-2 c = let y = at-most-ten c.wire_offset-wire.result.0 in
    let z = at-most-ten (length c.args.raw.now) in
    search rules

pub returns : goal.returns
returns c = let a = c.args in
    status-put a.out.now a.at (record { rule = a.rule.0; code = a.code; raw = a.raw.now })
    c.wire_offset-wire.ensures.result_value c.size.ensures c.size-2.ensures
    c.put.ensures c.put-2.ensures c.put-3.ensures c.put_bytes.ensures
