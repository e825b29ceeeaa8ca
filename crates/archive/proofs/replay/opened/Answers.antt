use Rattle.std.proofs.Common.{sym, subst, ◌∙◌}
use Rattle.std.specs.Prelude.{OnErr}
use Rattle.archive.specs.Replay.{opened, Closed}
use Rattle.archive.specs.declared.replay.Replay.{Replay}
use Rattle.archive.proofs.Laws.Replay.{opened-is, refused-closed}
use Rattle.archive.proofs.replay.opened.Goals as goal

pub returns-clause-value : goal.returns-clause-value
unfolding opened
returns-clause-value c = c.unwrap_or.ensures ∙ opened-is c.args.table c.args.answer (λ e. c.start.ensures)

pub returns-clause-closed : goal.returns-clause-closed
unfolding opened
returns-clause-closed c =
    subst (λ (s : Replay). OnErr c.args.answer (Closed s)) (sym (c.unwrap_or.ensures ∙ opened-is c.args.table c.args.answer (λ e. c.start.ensures)))
    (refused-closed c.args.table c.args.answer)
