use Rattle.std.proofs.Common.{ltb, sym, ◌∙◌, rules}
use Rattle.std.proofs.lemmas.Iterator.{YieldsList-from_slice}
use Rattle.std.proofs.lemmas.Iterator.Search.{any_from_yields_List}
use Rattle.writers.proofs.Laws.Sizes.{any-list}
use Rattle.writers.proofs.sizes.any_above.Goals as goal

pub returns : goal.returns
returns c = let s = c.args.sizes.now in
    any_from_yields_List (ltb c.args.most) _ _ _ c.any.ensures.ran (YieldsList-from_slice s c.iter.ensures.rest) (λ x b q k. search rules) ∙ sym (any-list (ltb c.args.most) s)
