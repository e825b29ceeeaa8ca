use mathlib.Core.Path.{sym}
use Rattle.archive.specs.Replay.{rejection_id}
use Rattle.archive.proofs.replay.Rejection.id.Goals as goal

pub returns-in-Refused : goal.returns-in-Refused
unfolding rejection_id
returns-in-Refused c = sym (rw c.in-Refused.is)

pub returns-in-Mismatch : goal.returns-in-Mismatch
unfolding rejection_id
returns-in-Mismatch c = sym (rw c.in-Mismatch.is)
