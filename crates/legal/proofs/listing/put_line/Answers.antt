use Rattle.legal.proofs.Laws.Listing.{line-put}
use borrow.Author.Rules.{rules}
use Rattle.legal.proofs.listing.put_line.Goals as goal

pub returns : goal.returns
returns c = line-put _ _ _ _ _ _ (search rules) c.put_digits-k.ensures.value c.put_digits-k.ensures.cells c.put.ensures
