use mathlib.Core.Path.{◌∙◌}
use Rattle.extension.proofs.Laws.Update.{status-long, status-short}
use Rattle.extension.proofs.update.status_at.Goals as goal

pub returns-then-bytes-gt-INPUT_MOST : goal.returns-then-bytes-gt-INPUT_MOST
returns-then-bytes-gt-INPUT_MOST c = status-long _ _ c.if-bytes-gt-INPUT_MOST.true

pub returns : goal.returns
returns c = c.read_status.ensures ∙ status-short _ _ c.if-bytes-gt-INPUT_MOST.false
