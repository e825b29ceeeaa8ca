use mathlib.Core.Path.{sym, ◌∙◌}
use Rattle.exports.specs.Calls.{next_bytes}
use Rattle.exports.proofs.Laws.{sized-is, next-sized, next-none, next-after, walks-all}
use Rattle.exports.proofs.votes.ergo_next_legal_votes.Goals as goal

pub returns-in-Some : goal.returns-in-Some
unfolding next_bytes
returns-in-Some c = record {
  out_after = next-sized _ (sized-is c.write_bytes.result c.size_of.ensures c.write_bytes.ensures)
      (sym c.in-Some.is ∙ c.next_legal_votes.ensures.value ∙ next-after _ _ c.votes_of-v.ensures);
  lists = walks-all;
}

pub returns-in-None : goal.returns-in-None
returns-in-None c = record {
  out_after = next-sized _ (next-none _) (sym c.in-None.is ∙ c.next_legal_votes.ensures.value ∙ next-after _ _ c.votes_of-v.ensures);
  lists = walks-all;
}
