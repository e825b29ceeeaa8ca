use Rattle.std.proofs.Common.{w32}
use mir.ValLaws.{to_z-of_z}
use Rattle.voting.specs.Table.{beginning}
use Rattle.voting.proofs.table.beginning.Goals as goal

pub returns : goal.returns
unfolding beginning
returns c = rw (to_z-of_z w32 c.args.version c.ranges.version)
