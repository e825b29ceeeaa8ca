use Rattle.std.proofs.Common.{◌≡◌, length, ap, ◌∙◌, rules}
use Rattle.voting.specs.Header.{check_header_votes}
use Rattle.codec.proofs.Laws.Lists.{all-elements}
use Rattle.voting.proofs.header.check_header_votes.Goals as goal

pub returns : goal.returns
returns c = let bs = c.args.votes in
    let l : length bs ≡ 3 = search rules in
    c.check_votes.ensures ∙ ap check_header_votes (all-elements 3 bs l)
