use mathlib.Core.Path.{◌∙◌}
use Rattle.headers.proofs.lanes.chosen.Goals as goal

pub returns : goal.returns
returns c = let k = c.kept.ensures in
    let l = c.kept-2.ensures in
    let j = c.joined.ensures in
    let m = c.kept-3.ensures in
    let i = c.joined-2.ensures in
    (λ p q r. i.1 (m.1 r) ∙ j.1 (l.1 q) ∙ k.0 p, λ p q r. i.1 (m.1 r) ∙ j.0 (k.1 p) ∙ l.0 q, λ p q r. i.0 (j.1 (l.1 q) ∙ k.1 p) ∙ m.0 r)
