use Rattle.std.proofs.Common.{ap, ◌∙◌, w8}
use mir.ValLaws.{to_z-of_z}
use Rattle.voting.specs.Ordinary.{parameter, known}
use Rattle.voting.proofs.ordinary.Parameter.of.Goals as goal

pub returns-then-m : goal.returns-then-m
unfolding known
returns-then-m c = let q = c.unsigned_abs-m.ensures.value ∙ ap parameter (to_z-of_z w8 c.args.id c.ranges.id) in rw (← q, c.if-m.true)

pub returns : goal.returns
unfolding known
returns c = let q = c.unsigned_abs-m.ensures.value ∙ ap parameter (to_z-of_z w8 c.args.id c.ranges.id) in rw (← q, c.if-m.false)
