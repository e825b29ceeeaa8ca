use Rattle.std.proofs.Common.{arith}
use Rattle.voting.specs.Common.{eq_z}
use Rattle.voting.specs.Boundary.{is_number, is_absent, with_subblocks}
use Rattle.voting.proofs.boundary.with_subblocks.Goals as goal

pub returns-then-eq-is_none : goal.returns-then-eq-is_none
unfolding with_subblocks is_number is_absent eq_z
returns-then-eq-is_none c = grind arith

pub returns : goal.returns
unfolding with_subblocks is_number is_absent eq_z
returns c = grind arith
