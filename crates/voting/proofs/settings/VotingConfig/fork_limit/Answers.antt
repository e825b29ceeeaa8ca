use Rattle.std.proofs.Common.{◌^◌, ◌<◌, arith, rules}
use Rattle.voting.proofs.Laws.Settings.{product, limit-even, limit-odd}
use Rattle.voting.proofs.settings.VotingConfig.fork_limit.Goals as goal

pub overflow_mul-p : goal.overflow_mul-p
overflow_mul-p c = let s = c.args.self in
    let a : s.voting_length < 2 ^ 32 = search rules in
    let b : s.soft_fork_epochs < 2 ^ 32 = search rules in
    omega (arith, product s.voting_length s.soft_fork_epochs a b)

pub returns-then-p-eq0 : goal.returns-then-p-eq0
returns-then-p-eq0 c = limit-even c.args.self c.if-p-eq0.true

pub returns : goal.returns
returns c = limit-odd c.args.self c.if-p-eq0.false
