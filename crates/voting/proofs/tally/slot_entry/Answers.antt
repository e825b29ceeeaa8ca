use Rattle.std.proofs.Common.{eqb, ◌∙◌, arith, w8, rules}
use mir.ValLaws.{to_z-of_z}
use Rattle.counting.proofs.Laws.Count.{count_most}
use Rattle.voting.proofs.Laws.Tally.{slot-none, slot-some}
use Rattle.voting.proofs.tally.slot_entry.Goals as goal

pub returns-then-b-eq0 : goal.returns-then-b-eq0
returns-then-b-eq0 c = slot-none _ _ c.if-b-eq0.true

pub overflow_cast-n : goal.overflow_cast-n
overflow_cast-n c = omega (arith, count_most (eqb c.args.b) c.args.later.now, c.times_in-n.ensures, c.requires)

pub overflow_add-result : goal.overflow_add-result
overflow_add-result c = omega (arith, count_most (eqb c.args.b) c.args.later.now, c.times_in-n.ensures, c.requires)

pub returns : goal.returns
returns c = let a = c.args in
    slot-some a.later.now a.b c.if-b-eq0.false (to_z-of_z w8 c.i8_of-id.result (search rules) ∙ c.i8_of-id.ensures) c.times_in-n.ensures
