use Rattle.std.proofs.Common.{◌≡◌, length, rules}
use Rattle.support.proofs.Laws.Calls.{voteless-legal}
use Rattle.support.proofs.window.check_header.Goals as goal

pub returns-then-no_votes : goal.returns-then-no_votes
returns-then-no_votes c = let votes = c.args.votes in
    let three : length votes ≡ 3 = search rules in
    voteless-legal votes three _ c.no_votes.ensures c.if-no_votes.true
