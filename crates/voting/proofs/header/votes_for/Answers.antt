use Rattle.std.proofs.Common.{◌≡◌, ltb, length, ap, ◌∙◌, rules}
use Rattle.voting.specs.Header.{votes_for}
use Rattle.codec.proofs.Laws.Lists.{all-elements}
use Rattle.voting.proofs.header.votes_for.Goals as goal

pub returns : goal.returns
unfolding votes_for
returns c = let bs = c.args.votes in
    let l : length bs ≡ 3 = search rules in
    ap (ltb 0) c.times.ensures ∙ ap (votes_for c.args.vote) (all-elements 3 bs l)
