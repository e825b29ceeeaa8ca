use Rattle.voting.proofs.Laws.Sweep.{place-empty, place-held}
use Rattle.std.proofs.Common.{◌∙◌, rules}
use Rattle.voting.proofs.boundary.place.Goals as goal

pub returns-then-e-eq0 : goal.returns-then-e-eq0
returns-then-e-eq0 c = place-empty _ _ _ _ (search rules) c.if-e-eq0.true

pub returns : goal.returns
returns c = c.entry.ensures ∙ place-held _ _ _ _ (search rules) c.if-e-eq0.false
