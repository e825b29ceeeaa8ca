use Rattle.std.proofs.Common.{sym, ◌∙◌}
use Rattle.writers.proofs.Laws.Fields.{fields-end, value-short, values-too, values-left, fields-put}
use Rattle.writers.proofs.fields.put_fields.Goals as goal

pub slice_bounds-put_field-end : goal.slice_bounds-put_field-end
slice_bounds-put_field-end c = let l = c.loop-i in
    let a = c.args in
    values-too a.keys.now a.sizes.now a.values.now l.i l.p c.requires c.loop-i-test.true l.invariant.0

pub put_field-requires : goal.put_field-requires
put_field-requires c = let l = c.loop-i in
    let a = c.args in
    value-short a.keys.now a.sizes.now a.values.now l.i l.p c.requires c.loop-i-test.true l.invariant.0

pub loop-i-preserved : goal.loop-i-preserved
loop-i-preserved c = let l = c.loop-i in
    let a = c.args in
    let t = c.loop-i-test.true in (
      values-left a.keys.now a.sizes.now a.values.now l.i l.p c.requires t l.invariant.0,
      rw c.put_field.ensures (sym (fields-put a.keys.now a.sizes.now a.values.now l.i l.p c.requires t l.invariant.0 l.out) ∙ l.invariant.1),
    )

pub returns : goal.returns
returns c = let l = c.loop-i in
    let a = c.args in
    rw (fields-end a.keys.now a.sizes.now a.values.now l.i l.p c.loop-i-test.false) at l.invariant.1
