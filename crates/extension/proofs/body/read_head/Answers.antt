use mathlib.Core.Path.{sym, ap, ◌∙◌}
use Rattle.std.specs.Prelude.{Err}
use Rattle.codec.proofs.Laws.VlqTrip.{read-inside}
use Rattle.voting.proofs.Laws.Tests.{early, then-stop}
use Rattle.extension.proofs.Laws.Section.{unread}
use Rattle.extension.proofs.Laws.Body.{body-long, body-short, body-counted, body-uncounted, head-long, head-short, head-counted, head-uncounted}
use Rattle.extension.proofs.body.read_head.Goals as goal

pub returns-then-body-gt-INPUT_MOST : goal.returns-then-body-gt-INPUT_MOST
returns-then-body-gt-INPUT_MOST c = record { head = head-long _ c.if-body-gt-INPUT_MOST.true; short = tt; value = body-long _ c.if-body-gt-INPUT_MOST.true }

pub returns-then-body-lt-HEADER_ID_SIZE : goal.returns-then-body-lt-HEADER_ID_SIZE
returns-then-body-lt-HEADER_ID_SIZE c =
    record {
      head = head-short _ c.if-body-gt-INPUT_MOST.false c.if-body-lt-HEADER_ID_SIZE.true;
      short = tt;
      value = body-short _ c.if-body-gt-INPUT_MOST.false c.if-body-lt-HEADER_ID_SIZE.true;
    }

pub returns-in_err-m : goal.returns-in_err-m
returns-in_err-m c =
    let u = unread _ _ _ (sym c.ok_or.ensures.value ∙ c.in_err-m.was) in
    let e = early _ c.from_residual.ensures.1 ∙ ap Err u.1 in
    let none = u.0 ∙ c.read_u32.ensures in
    record {
      head = e ∙ head-uncounted _ c.if-body-gt-INPUT_MOST.false c.if-body-lt-HEADER_ID_SIZE.false none;
      short = rw e tt;
      value = then-stop _ _ e ∙ body-uncounted _ c.if-body-gt-INPUT_MOST.false c.if-body-lt-HEADER_ID_SIZE.false none;
    }

pub overflow_cast-result : goal.overflow_cast-result
overflow_cast-result c = record { fits = (read-inside 32 _ _ _ (sym c.in_ok-m.ensures.ok_part ∙ c.read_u32.ensures)).value-fits }

-- the count was read: what stands before the fields is the head,
-- and the list of fields that it begins, closed, is that of the rules
pub returns : goal.returns
returns c =
    let some = sym c.in_ok-m.ensures.ok_part ∙ c.read_u32.ensures in
    record {
      head = head-counted _ c.if-body-gt-INPUT_MOST.false c.if-body-lt-HEADER_ID_SIZE.false _ some;
      short = c.if-body-gt-INPUT_MOST.false;
      value = body-counted _ c.if-body-gt-INPUT_MOST.false c.if-body-lt-HEADER_ID_SIZE.false _ some;
    }
