use Rattle.voting.specs.ForkPart.{one_more}
use mir.ValLaws.{to_z-of_z}
use Rattle.std.proofs.Common.{◌∙◌, w32, SFits, rules}
use Rattle.voting.proofs.fork.one_more.Goals as goal

pub returns : goal.returns
unfolding one_more
returns c = let r = c.wrapping_add_i32.result in
    let f : SFits w32 r = search rules in
    to_z-of_z w32 r f ∙ c.wrapping_add_i32.ensures ∙ rw (to_z-of_z w32 c.args.z c.ranges.z)
