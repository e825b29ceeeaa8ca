use Rattle.std.specs.Prelude.{Err}
use Rattle.archive.specs.declared.record.Unread.TheVariants.{Short, Malformed}
use Prim.Native.Nat.{ℕ}
use Rattle.exports.specs.Reply.{reply, minus}
use Rattle.exports.specs.Calls.{record_reply}
use mathlib.Core.Path.{refl, sym, ap, ◌∙◌}
use Rattle.exports.proofs.Laws.{through-reply, placed-is}
use Rattle.exports.proofs.records.ergo_read_record.Goals as goal

pub returns-in-Ok : goal.returns-in-Ok
unfolding record_reply
returns-in-Ok c = through-reply record_reply _ (placed-is c.write_record.result c.place_of.ensures c.write_record.ensures.out_after) (sym c.in-Ok.is ∙ c.read_record.ensures.value)

pub returns-in-Err-Short : goal.returns-in-Err-Short
unfolding record_reply
returns-in-Err-Short c = through-reply record_reply {x = Err (Short c.in-Err-Short.n)} _ refl
    (ap Err (sym c.in-Err-Short.field-0-is) ∙ sym c.in-Err-Short.is ∙ c.read_record.ensures.value)

pub returns-in-Err-Malformed : goal.returns-in-Err-Malformed
unfolding record_reply
returns-in-Err-Malformed c = through-reply record_reply {x = Err Malformed} _ (ap (λ (r : ℕ). reply r c.args.out.now) (c.minus.ensures ∙ ap minus c.number.ensures))
    (ap Err (sym c.in-Err-Malformed.field-0-is) ∙ sym c.in-Err-Malformed.is ∙ c.read_record.ensures.value)
