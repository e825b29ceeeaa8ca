use Rattle.std.proofs.Common.{length, sym, ◌∙◌, arith}
use Rattle.voting.proofs.Laws.Tests.{early}
use Rattle.codec.proofs.Laws.VlqTrip.{at-most-ten}
use Rattle.codec.proofs.Laws.Output.{short, done}
use Rattle.extension.specs.Encode.{encoded, status_list}
use Rattle.writers.proofs.Laws.EncodeTrip.{update-back}
use Rattle.writers.proofs.Laws.Encode.{accepted, update-refused, update-written, update-size, update-put}
use Rattle.writers.proofs.encode.encode_validation_settings_update.Goals as goal

pub returns-in_err-check_update-clause-out_after : goal.returns-in_err-check_update-clause-out_after
returns-in_err-check_update-clause-out_after c =
    rw (early _ c.from_residual.ensures.1) (update-refused _ _ _ _ _ _ (sym c.check_update.ensures.value ∙ c.in_err-check_update.was) _)

pub rules_size-requires : goal.rules_size-requires
rules_size-requires c = (accepted c.args.rules.now c.args.ids.now c.args.codes.now c.args.sizes.now c.args.raw.now (sym c.check_update.ensures.value ∙ c.in_ok-check_update.was)).few-rules

pub overflow_add-second : goal.overflow_add-second
overflow_add-second c = omega (arith, c.rules_size.ensures, c.size-first.ensures, at-most-ten (length c.args.rules.now))

pub overflow_add-third : goal.overflow_add-third
overflow_add-third c = omega (arith, c.rules_size.ensures, c.size-first.ensures, c.size.ensures, at-most-ten (length c.args.rules.now), at-most-ten (length c.args.ids.now))

pub statuses_size-requires : goal.statuses_size-requires
statuses_size-requires c = (accepted c.args.rules.now c.args.ids.now c.args.codes.now c.args.sizes.now c.args.raw.now (sym c.check_update.ensures.value ∙ c.in_ok-check_update.was)).few-ids

pub overflow_add-need : goal.overflow_add-need
overflow_add-need c = let a = c.args in
    omega (arith, c.rules_size.ensures, c.size-first.ensures, c.size.ensures, c.statuses_size.ensures, at-most-ten (length a.rules.now), at-most-ten (length a.ids.now))

pub returns-then-out-need : goal.returns-then-out-need
returns-then-out-need c = let a = c.args in
    let rules = a.rules.now in
    let ids = a.ids.now in
    let codes = a.codes.now in
    let sizes = a.sizes.now in
    let raw = a.raw.now in
    let r = c.check_update.ensures in
    let q = sym r.value ∙ c.in_ok-check_update.was in record {
      out_after = short (encoded rules (status_list ids codes sizes raw)) a.out.now _
          (update-size rules ids codes sizes raw (accepted rules ids codes sizes raw q).agrees c.size-first.ensures c.rules_size.ensures.0 c.size.ensures c.statuses_size.ensures.0)
          c.if-out-need.true ∙
          update-written rules ids codes sizes raw q a.out.now;
      back = update-back rules ids codes sizes raw (λ i. (c.shared_slice_known-1.given i).fits) r.value r.fit;
    }

pub put_statuses-requires : goal.put_statuses-requires
put_statuses-requires c = (accepted c.args.rules.now c.args.ids.now c.args.codes.now c.args.sizes.now c.args.raw.now (sym c.check_update.ensures.value ∙ c.in_ok-check_update.was)).agrees

pub returns : goal.returns
returns c = let a = c.args in
    let rules = a.rules.now in
    let ids = a.ids.now in
    let codes = a.codes.now in
    let sizes = a.sizes.now in
    let raw = a.raw.now in
    let r = c.check_update.ensures in
    let q = sym r.value ∙ c.in_ok-check_update.was in
    let g = (accepted rules ids codes sizes raw q).agrees in
    let pf = c.size-first.ensures in
    let pr = c.rules_size.ensures.0 in
    let pk = c.size.ensures in
    let p₁ = c.put.ensures in
    let p₂ = c.put_rules.ensures in
    let p₃ = c.put-2.ensures in record {
      out_after = done (encoded rules (status_list ids codes sizes raw)) a.out.now _ (update-size rules ids codes sizes raw g pf pr pk c.statuses_size.ensures.0) c.if-out-need.false _
          (update-put rules ids codes sizes raw g pf pr pk a.out.now p₁ p₂ p₃ c.put_statuses.ensures) ∙
          update-written rules ids codes sizes raw q a.out.now;
      back = update-back rules ids codes sizes raw (λ i. (c.shared_slice_known-1.given i).fits) r.value r.fit;
    }
