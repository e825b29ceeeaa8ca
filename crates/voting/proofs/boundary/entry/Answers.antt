use Rattle.std.proofs.Common.{◌≡◌, cond, not, ◌&&◌, eqb, refl, ◌∙◌, w8, SFits, of_z, rules}
use Rattle.voting.proofs.Laws.Sweep.{entry-is}
use Rattle.voting.proofs.boundary.entry.Goals.{then-fork-s, else-fork-s}
use Rattle.voting.proofs.boundary.entry.Goals as goal

pub returns : goal.returns
returns c = let e = c.args.e in
    let s = c.args.s in
    let f : SFits w8 e.id = search rules in
    let q : c.if-fork-s.result ≡ cond (eqb (of_z w8 e.id) 120 && not s.found) e.count s.votes =
    elim c.if-fork-s.branch [ then-fork-s w ↦ w.result-is ∙ rw w.if-fork-s.true | else-fork-s w ↦ w.result-is ∙ rw w.if-fork-s.false ] in
    entry-is _ _ s e f _ refl _ c.voted_on.ensures _ q
