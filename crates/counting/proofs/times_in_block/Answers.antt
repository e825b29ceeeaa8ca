use Rattle.std.proofs.Common.{◌+◌, eqb, arith}
use Rattle.counting.proofs.Laws.Count.{slice_most, slice-counted}
use Rattle.counting.proofs.times_in_block.Goals as goal

pub returns : goal.returns
returns c =
    let a = c.args in
    let most = slice_most (eqb a.b) a.bytes.now a.at _ c.times_in_few.ensures in
    let counted = slice-counted (eqb a.b) a.bytes.now a.at _ c.times_in_few.ensures (a.at + 192) (omega arith) in
    (omega (arith, most), counted)
