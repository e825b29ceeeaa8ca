use mathlib.Core.Path.{sym, ap, subst, ◌∙◌}
use Rattle.legal.specs.Legal.{Next}
use Rattle.legal.specs.Search.{votes_at}
use Rattle.legal.proofs.Laws.Next.{next-found, next-right, lists-all}
use Rattle.legal.proofs.next.next_legal_votes.Goals as goal

pub returns : goal.returns
returns c = let n = c.number_of in
    let found = c.votes_of.ensures ∙ ap votes_at c.first_from.ensures ∙ next-found _ _ _ n.result n.ensures.0 in
    record {
      value = found;
      next = subst (Next _) (sym found) (next-right _ _ _);
      lists = lists-all;
    }
