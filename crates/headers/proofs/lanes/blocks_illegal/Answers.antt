use Rattle.std.proofs.Common.{◌*◌, rules}
use Rattle.headers.specs.Lanes.{LegalBlock}
use Rattle.headers.proofs.Laws.Lanes.{none-from_fold, legal_blocks}
use Rattle.headers.proofs.lanes.blocks_illegal.Goals as goal

pub returns : goal.returns
returns c = λ e. legal_blocks _ _ (none-from_fold (λ k. LegalBlock c.args.votes.now (48 * k)) _ _ _ (λ a k b h w. (search rules, search rules)) _ c.fold.ensures.ran e)
