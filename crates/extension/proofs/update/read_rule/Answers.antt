use mathlib.Core.Path.{sym, ap, ◌∙◌}
use Rattle.std.specs.Prelude.{Err}
use Rattle.codec.proofs.Laws.VlqTrip.{read-inside}
use Rattle.voting.proofs.Laws.Tests.{early}
use Rattle.extension.proofs.Laws.Section.{unread}
use Rattle.extension.proofs.Laws.Update.{rule-here, rule-unreadable}
use Rattle.extension.proofs.update.read_rule.Goals as goal

pub returns-in_err-m : goal.returns-in_err-m
returns-in_err-m c = let u = unread _ _ _ (sym c.ok_or.ensures.value ∙ c.in_err-m.was) in
    early _ c.from_residual.ensures.1 ∙ ap Err u.1 ∙ rule-unreadable _ _ (u.0 ∙ c.read_u16.ensures)

pub overflow_cast-result : goal.overflow_cast-result
overflow_cast-result c = record { fits = (read-inside 16 _ _ _ (sym c.in_ok-m.ensures.ok_part ∙ c.read_u16.ensures)).value-fits }

pub returns : goal.returns
returns c = rule-here _ _ _ (sym c.in_ok-m.ensures.ok_part ∙ c.read_u16.ensures)
