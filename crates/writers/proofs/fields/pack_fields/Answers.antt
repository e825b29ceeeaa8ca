use Rattle.std.proofs.Common.{sym, ◌∙◌}
use Rattle.voting.proofs.Laws.Tests.{early}
use Rattle.codec.proofs.Laws.Output.{short, done}
use Rattle.writers.specs.Fields.{field_list, fields_bytes}
use Rattle.writers.proofs.Laws.Fields.{fitting, fields-refused, fields-written, fields-length}
use Rattle.writers.proofs.Laws.FieldsTrip.{fields_back}
use Rattle.writers.proofs.fields.pack_fields.Goals as goal

pub returns-in_err-check_lists-clause-out_after : goal.returns-in_err-check_lists-clause-out_after
returns-in_err-check_lists-clause-out_after c = let a = c.args in
    rw (early _ c.from_residual.ensures.1) (fields-refused a.keys.now a.sizes.now a.values.now a.out.now _ (sym c.check_lists.ensures ∙ c.in_err-check_lists.was))

pub returns-then-out-n : goal.returns-then-out-n
returns-then-out-n c = let a = c.args in
    let q = sym c.check_lists.ensures ∙ c.in_ok-check_lists.was in
    let f = fitting a.keys.now a.sizes.now a.values.now q in
    record {
      out_after = short (fields_bytes (field_list a.keys.now a.sizes.now a.values.now)) a.out.now _ (fields-length a.keys.now a.sizes.now a.values.now f.2 f.3) c.if-out-n.true ∙ fields-written a.keys.now a.sizes.now a.values.now a.out.now q;
      reads_back = fields_back a.keys.now a.sizes.now a.values.now;
    }

pub put_fields-requires : goal.put_fields-requires
put_fields-requires c = let a = c.args in
    fitting a.keys.now a.sizes.now a.values.now (sym c.check_lists.ensures ∙ c.in_ok-check_lists.was)

pub returns : goal.returns
returns c = let a = c.args in
    let q = sym c.check_lists.ensures ∙ c.in_ok-check_lists.was in
    let f = fitting a.keys.now a.sizes.now a.values.now q in record {
      out_after = done (fields_bytes (field_list a.keys.now a.sizes.now a.values.now)) a.out.now _ (fields-length a.keys.now a.sizes.now a.values.now f.2 f.3) c.if-out-n.false _ c.put_fields.ensures ∙
          fields-written a.keys.now a.sizes.now a.values.now a.out.now q;
      reads_back = fields_back a.keys.now a.sizes.now a.values.now;
    }
