use Rattle.std.proofs.Common.{◌∙◌, arith, w32, SFits, rules}
use mir.ValLaws.{to_z-of_z}
use Rattle.voting.specs.ForkPart.{running}
use Rattle.voting.proofs.Laws.Fork.{running-on}
use Rattle.voting.proofs.fork.running.Goals as goal

pub returns-then-reads_total : goal.returns-then-reads_total
unfolding running
returns-then-reads_total c = grind arith

pub returns-else-reads_total : goal.returns-else-reads_total
unfolding running
returns-else-reads_total c = grind arith

pub returns-in-Some : goal.returns-in-Some
returns-in-Some c = let n = c.in-Some.n in
    let fn : SFits w32 n = search rules in
    let t = c.fork_total-total.result in
    let ft : SFits w32 t = search rules in
    c.finished-in-Some.ensures
    ∙ running-on _ _ _ _ _ _ _ n t _ _ _ c.in-Some.is
    (c.fork_total-total.ensures ∙ rw (to_z-of_z w32 n fn))
    (c.soft_fork_approved-approved.ensures ∙ rw (to_z-of_z w32 t ft))
    (c.round_steps-round.ensures ∙ rw (to_z-of_z w32 t ft))
    (c.five_steps-f.ensures ∙ rw (to_z-of_z w32 t ft))
