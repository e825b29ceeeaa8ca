use Rattle.std.proofs.Common.{arith}
use mir.ValLaws.{to_z-of_z}
use Rattle.voting.specs.Ordinary.{voted, approved_vote, writes, moved}
use Rattle.voting.proofs.ordinary.vote.Goals as goal

pub returns-then-not-counted : goal.returns-then-not-counted
unfolding voted
returns-then-not-counted c = grind arith

pub returns-in_err-m : goal.returns-in_err-m
unfolding voted approved_vote writes
returns-in_err-m c = grind (arith, to_z-of_z)

pub returns-in_err-z : goal.returns-in_err-z
unfolding voted approved_vote writes
returns-in_err-z c = grind (arith, to_z-of_z)

pub returns : goal.returns
unfolding voted approved_vote writes moved
returns c = grind (arith, to_z-of_z)
