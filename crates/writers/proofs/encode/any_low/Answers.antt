use Rattle.std.proofs.Common.{◌≡◌, false, pos, sym, ◌∙◌, rules, w16, SFits}
use lib.Signed.{lt_z}
use Rattle.std.proofs.lemmas.Iterator.{YieldsList-from_slice, cases_from_any}
use Rattle.std.proofs.lemmas.Iterator.Search.{any_from_yields_List}
use Rattle.std.proofs.lemmas.List.Elements.{All-from_all_within}
use Rattle.extension.specs.Encode.{low_rule}
use Rattle.writers.proofs.Laws.Sizes.{any-list, any-none}
use Rattle.writers.proofs.Laws.Encode.{not-high}
use Rattle.writers.proofs.encode.any_low.Goals as goal

pub returns-clause-value : goal.returns-clause-value
unfolding low_rule
returns-clause-value c = let s = c.args.ids.now in
    any_from_yields_List low_rule _ _ _ c.any.ensures.ran (YieldsList-from_slice s c.iter.ensures.rest) (λ x b q k. search rules) ∙ sym (any-list low_rule s)

pub returns-clause-fit : goal.returns-clause-fit
returns-clause-fit c = λ e. let s = c.args.ids.now in
    let k = cases_from_any _ _ c.any.result (λ z. Unit {0}) (λ z. lt_z (pos 32767) z ≡ false) c.any.ensures.ran (YieldsList-from_slice s c.iter.ensures.rest)
    (λ x q k. tt) (λ x q k. (search rules, let f : SFits w16 x.now = search rules in not-high x.now f)) in
    any-none (lt_z (pos 32767)) s (All-from_all_within (λ z. lt_z (pos 32767) z ≡ false) s (rw e at k))
