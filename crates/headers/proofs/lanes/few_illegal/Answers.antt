use Rattle.std.proofs.Common.{◌*◌, rules}
use Rattle.headers.specs.Lanes.{Legal}
use Rattle.headers.proofs.Laws.Lanes.{none-from_fold}
use Rattle.headers.proofs.lanes.few_illegal.Goals as goal

pub returns : goal.returns
returns c = none-from_fold (λ i. Legal c.args.votes.now (3 * i)) _ _ _ (λ a i b h k. (search rules, search rules)) _ c.fold.ensures.ran
