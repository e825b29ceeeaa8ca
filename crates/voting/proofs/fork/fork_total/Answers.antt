use Rattle.std.proofs.Common.{◌^◌, ◌<◌, arith, w32, rules}
use mir.ValLaws.{to_z-of_z}
use Rattle.codec.proofs.Laws.Signed.{wrapped-natural}
use Rattle.voting.specs.ForkPart.{fork_total}
use Rattle.voting.proofs.fork.fork_total.Goals as goal

pub returns : goal.returns
unfolding fork_total
returns c = let l : c.args.votes < 2 ^ 32 = search rules in
    let w = wrapped-natural w32 c.args.votes c.args.collected l c.ranges.collected in
    grind (arith, to_z-of_z)
