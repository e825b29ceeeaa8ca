use Rattle.std.proofs.Common.{◌^◌, ◌<◌, arith, w32, rules}
use mir.ValLaws.{to_z-of_z}
use Rattle.codec.proofs.Laws.Signed.{wrapped-pos}
use Rattle.voting.specs.ForkPart.{begun}
use Rattle.voting.proofs.fork.begun.Goals as goal

pub returns-then-opens : goal.returns-then-opens
unfolding begun
returns-then-opens c = let l : c.args.height < 2 ^ 32 = search rules in
    let w = wrapped-pos w32 c.args.height l in
    grind (arith, to_z-of_z)

pub returns : goal.returns
unfolding begun
returns c = grind arith
