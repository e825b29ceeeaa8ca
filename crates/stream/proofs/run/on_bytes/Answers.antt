use Rattle.stream.specs.Run.{ends_by}
use Rattle.stream.proofs.Laws.Run.{bytes_whole, bytes-short, bytes-malformed}
use Rattle.std.proofs.Common.{Err, ap, ◌∙◌}
use Rattle.stream.proofs.run.on_bytes.Goals as goal

pub returns-in-Ok : goal.returns-in-Ok
returns-in-Ok c = c.after_replay.ensures ∙ bytes_whole _ _ _ c.record_of.ensures _ _ c.in-Ok.is _ c.replay.ensures.value

pub returns-in-Err-Short : goal.returns-in-Err-Short
returns-in-Err-Short c = c.waits.ensures ∙ bytes-short _ _ _ c.record_of.ensures _ _ (c.in-Err-Short.is ∙ ap Err c.in-Err-Short.field-0-is)

pub returns-in-Err-Malformed : goal.returns-in-Err-Malformed
returns-in-Err-Malformed c =
    c.ends_by.ensures ∙ ap (ends_by c.args.run c.args.used) c.number.ensures ∙ bytes-malformed _ _ _ c.record_of.ensures _ (c.in-Err-Malformed.is ∙ ap Err c.in-Err-Malformed.field-0-is)
