use mathlib.Core.Path.{sym, ◌∙◌}
use Rattle.archive.specs.Replay.{rejection_number}
use Rattle.archive.proofs.replay.Rejection.number.Goals as goal

pub returns-in-Refused : goal.returns-in-Refused
unfolding rejection_number
returns-in-Refused c = c.number.ensures ∙ sym (rw c.in-Refused.is)

pub returns-in-Mismatch : goal.returns-in-Mismatch
unfolding rejection_number
returns-in-Mismatch c = c.number-in-Mismatch.ensures ∙ sym (rw c.in-Mismatch.is)
