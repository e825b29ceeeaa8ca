use mathlib.Core.Path.{sym, ap, ◌∙◌}
use Rattle.std.specs.Prelude.{Err}
use Rattle.codec.proofs.Laws.VlqTrip.{read-inside}
use Rattle.voting.proofs.Laws.Tests.{early}
use Rattle.extension.proofs.Laws.Section.{unread}
use Rattle.extension.proofs.Laws.Update.{offset-here, offset-unreadable}
use Rattle.extension.proofs.update.read_status.Goals as goal

pub returns-in_err-m : goal.returns-in_err-m
returns-in_err-m c = let u = unread _ _ _ (sym c.ok_or.ensures.value ∙ c.in_err-m.was) in
    early _ c.from_residual.ensures.1 ∙ ap Err u.1 ∙ offset-unreadable _ _ (u.0 ∙ c.read_u16.ensures)

pub overflow_cast-offset : goal.overflow_cast-offset
overflow_cast-offset c = record { fits = (read-inside 16 _ _ _ (sym c.in_ok-m.ensures.ok_part ∙ c.read_u16.ensures)).value-fits }

pub returns : goal.returns
returns c = c.read_sized.ensures ∙ offset-here _ _ _ (sym c.in_ok-m.ensures.ok_part ∙ c.read_u16.ensures) _ c.rule_id.ensures.result_value
