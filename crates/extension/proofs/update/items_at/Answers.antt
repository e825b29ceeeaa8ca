use mathlib.Core.Path.{sym, ap, ◌∙◌}
use Rattle.std.specs.Prelude.{Err}
use Rattle.voting.proofs.Laws.Tests.{early}
use Rattle.extension.proofs.Laws.Section.{unread}
use Rattle.extension.proofs.update.items_at.Goals as goal

pub returns-in_err-m : goal.returns-in_err-m
returns-in_err-m c = let u = unread _ _ _ (sym c.ok_or.ensures.value ∙ c.in_err-m.was) in
    early _ c.from_residual.ensures.1 ∙ ap Err u.1 ∙ rw (← (u.0 ∙ c.read_u32.ensures))

pub returns : goal.returns
returns c = rw (← (sym c.in_ok-m.ensures.ok_part ∙ c.read_u32.ensures), ← c.count_in.ensures)
