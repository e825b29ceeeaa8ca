use Rattle.voting.proofs.ordinary.goes_on.Goals as goal

pub returns : goal.returns
returns c = c.unwrap_or.ensures
