use Rattle.voting.proofs.Laws.Settings.{not-approved, approved-by, cast-64}
use Rattle.voting.proofs.settings.VotingConfig.soft_fork_approved.Goals as goal

pub returns-then-votes-lt0 : goal.returns-then-votes-lt0
returns-then-votes-lt0 c = not-approved c.args.self c.args.votes c.ranges.votes c.if-votes-lt0.true

pub overflow_cast-result : goal.overflow_cast-result
overflow_cast-result c = cast-64 c.args.self c.args.votes c.ranges.votes c.if-votes-lt0.false

pub returns : goal.returns
returns c = approved-by c.args.self c.args.votes c.ranges.votes _ c.fork_limit-limit.ensures c.if-votes-lt0.false
