use Rattle.std.proofs.Common.{◌≡◌, length, arith, rules}
use Rattle.voting.proofs.Laws.Tests.{early}
use Rattle.codec.proofs.Laws.VlqTrip.{at-most-ten}
use Rattle.writers.proofs.Laws.Pack.{pack-refused, pack-short, pack-short-fields, pack-done}
use Rattle.writers.proofs.Laws.PackTrip.{packed-back}
use Rattle.writers.proofs.pack.pack_extension_bytes.Goals as goal

pub returns-in_err-check_survey : goal.returns-in_err-check_survey
returns-in_err-check_survey c = let l : length c.args.header_id ≡ 32 = search rules in
    record {
      out_after = rw (early _ c.from_residual.ensures.1) (pack-refused _ _ _ c.survey_fields-w.ensures c.check_survey.ensures _ c.in_err-check_survey.was);
      back = packed-back _ _ l;
    }

pub overflow_add-first : goal.overflow_add-first
overflow_add-first c = omega (arith, c.size-first.ensures, at-most-ten c.survey_fields-w.result.count)

pub returns-then-out-first : goal.returns-then-out-first
returns-then-out-first c = let l : length c.args.header_id ≡ 32 = search rules in
    record {
      out_after = pack-short _ _ _ c.survey_fields-w.ensures c.check_survey.ensures l c.in_ok-check_survey.was c.size-first.ensures c.if-out-first.true;
      back = packed-back _ _ l;
    }

pub returns-then-out-first-2 : goal.returns-then-out-first-2
returns-then-out-first-2 c = let l : length c.args.header_id ≡ 32 = search rules in record {
  out_after = pack-short-fields _ _ _ c.survey_fields-w.ensures c.check_survey.ensures l c.in_ok-check_survey.was c.size-first.ensures c.if-out-first.false c.if-out-first-2.true;
  back = packed-back _ _ l;
}

pub returns : goal.returns
returns c = let l : length c.args.header_id ≡ 32 = search rules in record {
  out_after = pack-done _ _ _ c.survey_fields-w.ensures c.check_survey.ensures l c.in_ok-check_survey.was c.size-first.ensures c.if-out-first.false c.if-out-first-2.false
      c.put_bytes.ensures c.put.ensures c.put_bytes-2.ensures;
  back = packed-back _ _ l;
}
