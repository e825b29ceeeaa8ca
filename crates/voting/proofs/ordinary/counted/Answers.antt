use Rattle.std.proofs.Common.{◌&&◌, ℤ, pos, ap, ap₂, w8, rules}
use lib.Signed.{lt_z}
use mir.ValLaws.{to_z-of_z}
use Rattle.voting.specs.Ordinary.{counts}
use Rattle.voting.specs.Header.{soft_fork_vote}
use Rattle.voting.proofs.ordinary.counted.Goals as goal

pub returns : goal.returns
unfolding counts
returns c = ap₂ ◌&&◌ (ap (λ (z : ℤ). lt_z z (pos soft_fork_vote)) (to_z-of_z w8 c.args.e.id (search rules))) c.change_approved-approved.ensures
