use Rattle.voting.specs.ForkPart.{two_for_one}
use Rattle.voting.proofs.Laws.Integers.{is-number}
use Rattle.std.proofs.Common.{◌∙◌, arith, w32, of_z, eq-eqb, ne_eqb}
use mir.ValLaws.{to_z-of_z}
use Rattle.voting.proofs.fork.two_for_one.Goals as goal

pub returns-then-z-eq1 : goal.returns-then-z-eq1
unfolding two_for_one
returns-then-z-eq1 c = rw (is-number w32 c.args.z 1 c.ranges.z (omega arith), eq-eqb (of_z w32 c.args.z) 1 c.if-z-eq1.true)

pub returns : goal.returns
unfolding two_for_one
returns c = to_z-of_z w32 c.args.z c.ranges.z ∙ rw (is-number w32 c.args.z 1 c.ranges.z (omega arith), ne_eqb (of_z w32 c.args.z) 1 c.if-z-eq1.false)
