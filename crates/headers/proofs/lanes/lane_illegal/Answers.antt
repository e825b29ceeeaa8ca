use Rattle.headers.proofs.Laws.Lanes.{not-illegal, legal-at}
use Rattle.headers.proofs.lanes.lane_illegal.Goals as goal

pub returns : goal.returns
returns c = λ e.
    let x = c.chosen-a.ensures in
    let y = c.chosen-b.ensures in
    let z = c.chosen-c.ensures in
    let h = not-illegal _ c.is_illegal.ensures e in
    record {
      first = λ p q r. legal-at (x.0 p q r) (y.0 p q r) (z.0 p q r) h;
      second = λ p q r. legal-at (x.1 p q r) (y.1 p q r) (z.1 p q r) h;
      third = λ p q r. legal-at (x.2 p q r) (y.2 p q r) (z.2 p q r) h;
    }
