use mathlib.Core.Path.{sym, ap, ◌∙◌}
use native.Mathlib.Omega.{arith}
use Rattle.std.specs.Prelude.{Err}
use Rattle.codec.proofs.Laws.VlqTrip.{read-inside}
use Rattle.voting.proofs.Laws.Tests.{early}
use Rattle.extension.proofs.Laws.Section.{unread}
use Rattle.extension.proofs.Laws.Update.{raw-cut, raw-here, size-unreadable}
use Rattle.extension.proofs.update.read_sized.Goals as goal

pub returns-in_err-m : goal.returns-in_err-m
returns-in_err-m c = let u = unread _ _ _ (sym c.ok_or.ensures.value ∙ c.in_err-m.was) in
    early _ c.from_residual.ensures.1 ∙ ap Err u.1 ∙ size-unreadable _ _ _ (u.0 ∙ c.read_u16.ensures)

pub overflow_sub-room : goal.overflow_sub-room
overflow_sub-room c = (read-inside 16 _ _ _ (sym c.in_ok-m.ensures.ok_part ∙ c.read_u16.ensures)).inside

pub overflow_add-size : goal.overflow_add-size
overflow_add-size c = let i = read-inside 16 _ _ _ (sym c.in_ok-m.ensures.ok_part ∙ c.read_u16.ensures) in record { fits = omega (arith, i.value-fits) }

pub returns-then-room-size : goal.returns-then-room-size
returns-then-room-size c = let i = read-inside 16 _ _ _ (sym c.in_ok-m.ensures.ok_part ∙ c.read_u16.ensures) in
    raw-cut _ _ _ _ (sym c.in_ok-m.ensures.ok_part ∙ c.read_u16.ensures) (omega (arith, i.inside, c.if-room-size.true))

pub returns : goal.returns
returns c = let i = read-inside 16 _ _ _ (sym c.in_ok-m.ensures.ok_part ∙ c.read_u16.ensures) in
    raw-here _ _ _ _ (sym c.in_ok-m.ensures.ok_part ∙ c.read_u16.ensures) (omega (arith, i.inside, c.if-room-size.false))
