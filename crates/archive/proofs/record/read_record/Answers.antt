use Rattle.std.proofs.Common.{◌+◌, ◌∙◌, sym, refl, arith}
use Rattle.voting.proofs.Laws.Tests.{early}
use Rattle.archive.proofs.Laws.Record.{height_of, height-stops, body-stops, votes-stop, votes-end}
use Rattle.archive.proofs.Laws.RecordTrip.{height-inside, body-inside, PartsInside, parts-inside}
use Rattle.archive.proofs.Laws.RecordBytes.{record-exact}
use Rattle.archive.proofs.record.read_record.Goals as goal
use Rattle.archive.proofs.record.read_record.Goals.{In_ok-end}

-- the parts of a record whose three fields are read
parts : (c : In_ok-end)
    → PartsInside c.args.bytes.now (record { height = height_of c.args.bytes.now; body = 10; body_end = c.in_ok-body_end.body_end; votes = c.in_ok-body_end.body_end + 3; end = c.in_ok-end.end })
parts c =
    let height = sym c.in_ok-height_end.was ∙ c.tagged_at.ensures in
    let body = sym c.in_ok-body_end.was ∙ c.tagged_at-2.ensures in
    let votes = sym c.in_ok-end.was ∙ c.tagged_at-3.ensures in
    parts-inside _ _ _ (votes-end _ _ height body votes refl)

pub tagged_at-requires-2 : goal.tagged_at-requires-2
tagged_at-requires-2 c = height-inside _ _ (sym c.in_ok-height_end.was ∙ c.tagged_at.ensures)

pub tagged_at-requires-3 : goal.tagged_at-requires-3
tagged_at-requires-3 c = let height = sym c.in_ok-height_end.was ∙ c.tagged_at.ensures in
    body-inside _ _ height _ (sym c.in_ok-body_end.was ∙ c.tagged_at-2.ensures)

pub bounds-bytes-3 : goal.bounds-bytes-3
bounds-bytes-3 c = let p = parts (goal.at.bounds-bytes-3 c).In_ok-end in omega arith

pub bounds-bytes-4 : goal.bounds-bytes-4
bounds-bytes-4 c = let p = parts (goal.at.bounds-bytes-4 c).In_ok-end in omega arith

pub bounds-bytes-5 : goal.bounds-bytes-5
bounds-bytes-5 c = let p = parts (goal.at.bounds-bytes-5 c).In_ok-end in omega arith

pub bounds-bytes-6 : goal.bounds-bytes-6
bounds-bytes-6 c = let p = parts (goal.at.bounds-bytes-6 c).In_ok-end in omega arith

pub overflow_add-result : goal.overflow_add-result
overflow_add-result c = let p = parts (goal.at.overflow_add-result c).In_ok-end in omega arith

pub returns-in_err-height_end : goal.returns-in_err-height_end
returns-in_err-height_end c = record {
  value = early _ c.from_residual.ensures.1 ∙ height-stops _ _ (sym c.in_err-height_end.was ∙ c.tagged_at.ensures);
  exact = record-exact _ _ (λ i. (c.type_inv.bytes i).fits);
}

pub returns-in_err-body_end : goal.returns-in_err-body_end
returns-in_err-body_end c = let height = sym c.in_ok-height_end.was ∙ c.tagged_at.ensures in
    record {
      value = early _ c.from_residual-in_err-body_end.ensures.1 ∙ body-stops _ _ height (sym c.in_err-body_end.was ∙ c.tagged_at-2.ensures);
      exact = record-exact _ _ (λ i. (c.type_inv.bytes i).fits);
    }

pub returns-in_err-end : goal.returns-in_err-end
returns-in_err-end c = let height = sym c.in_ok-height_end.was ∙ c.tagged_at.ensures in
    let body = sym c.in_ok-body_end.was ∙ c.tagged_at-2.ensures in
    record {
      value = early _ c.from_residual-in_err-end.ensures.1 ∙ votes-stop _ _ height body (sym c.in_err-end.was ∙ c.tagged_at-3.ensures);
      exact = record-exact _ _ (λ i. (c.type_inv.bytes i).fits);
    }

pub returns : goal.returns
returns c = let height = sym c.in_ok-height_end.was ∙ c.tagged_at.ensures in
    let body = sym c.in_ok-body_end.was ∙ c.tagged_at-2.ensures in
    record {
      value = votes-end _ _ height body (sym c.in_ok-end.was ∙ c.tagged_at-3.ensures) c.joined.ensures.value;
      exact = record-exact _ _ (λ i. (c.type_inv.bytes i).fits);
    }
