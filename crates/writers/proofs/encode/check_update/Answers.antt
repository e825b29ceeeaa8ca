use mathlib.Core.Bool.{not}
use Rattle.std.proofs.Common.{sym, refl, ap, ◌∙◌, eqb-true}
use borrow.Author.Tests.{eqb-false}
use Rattle.extension.proofs.Laws.Encode.{none-refused}
use Rattle.writers.proofs.Laws.Sizes.{from-not}
use Rattle.writers.proofs.Laws.Encode.{many-rules, many-ids, many-codes, many-sizes, large-size, low-rule, codes-differ, sizes-differ, raw-differs}
use Rattle.writers.proofs.encode.check_update.Goals as goal

pub returns-then-rules-gt-ITEMS_MOST-clause-value : goal.returns-then-rules-gt-ITEMS_MOST-clause-value
returns-then-rules-gt-ITEMS_MOST-clause-value c = many-rules _ _ _ _ _ c.if-rules-gt-ITEMS_MOST.true

pub returns-then-ids-gt-ITEMS_MOST-clause-value : goal.returns-then-ids-gt-ITEMS_MOST-clause-value
returns-then-ids-gt-ITEMS_MOST-clause-value c = many-ids _ _ _ _ _ c.if-rules-gt-ITEMS_MOST.false c.if-ids-gt-ITEMS_MOST.true

pub returns-then-codes-gt-ITEMS_MOST-clause-value : goal.returns-then-codes-gt-ITEMS_MOST-clause-value
returns-then-codes-gt-ITEMS_MOST-clause-value c = many-codes _ _ _ _ _ c.if-rules-gt-ITEMS_MOST.false c.if-ids-gt-ITEMS_MOST.false c.if-codes-gt-ITEMS_MOST.true

pub returns-then-sizes-gt-ITEMS_MOST-clause-value : goal.returns-then-sizes-gt-ITEMS_MOST-clause-value
returns-then-sizes-gt-ITEMS_MOST-clause-value c = many-sizes _ _ _ _ _ c.if-rules-gt-ITEMS_MOST.false c.if-ids-gt-ITEMS_MOST.false c.if-codes-gt-ITEMS_MOST.false c.if-sizes-gt-ITEMS_MOST.true

pub returns-then-any_above-clause-value : goal.returns-then-any_above-clause-value
returns-then-any_above-clause-value c = large-size _ _ _ _ _ c.if-rules-gt-ITEMS_MOST.false c.if-ids-gt-ITEMS_MOST.false c.if-codes-gt-ITEMS_MOST.false c.if-sizes-gt-ITEMS_MOST.false c.any_above.ensures c.if-any_above.true

pub returns-then-any_low-clause-value : goal.returns-then-any_low-clause-value
returns-then-any_low-clause-value c = low-rule _ _ _ _ _ c.if-rules-gt-ITEMS_MOST.false c.if-ids-gt-ITEMS_MOST.false c.if-codes-gt-ITEMS_MOST.false c.if-sizes-gt-ITEMS_MOST.false c.any_above.ensures c.if-any_above.false c.any_low.ensures.value c.if-any_low.true

pub returns-then-codes-ids-clause-value : goal.returns-then-codes-ids-clause-value
returns-then-codes-ids-clause-value c = codes-differ _ _ _ _ _ c.if-rules-gt-ITEMS_MOST.false c.if-ids-gt-ITEMS_MOST.false c.if-codes-gt-ITEMS_MOST.false c.if-sizes-gt-ITEMS_MOST.false c.any_above.ensures c.if-any_above.false c.any_low.ensures.value c.if-any_low.false c.if-codes-ids.true

pub returns-then-sizes-ids-clause-value : goal.returns-then-sizes-ids-clause-value
returns-then-sizes-ids-clause-value c = sizes-differ _ _ _ _ _ c.if-rules-gt-ITEMS_MOST.false c.if-ids-gt-ITEMS_MOST.false c.if-codes-gt-ITEMS_MOST.false c.if-sizes-gt-ITEMS_MOST.false c.any_above.ensures c.if-any_above.false c.any_low.ensures.value c.if-any_low.false c.if-codes-ids.false c.if-sizes-ids.true

pub returns-then-not-sum_is-clause-value : goal.returns-then-not-sum_is-clause-value
returns-then-not-sum_is-clause-value c = raw-differs _ _ _ _ _ c.if-rules-gt-ITEMS_MOST.false c.if-ids-gt-ITEMS_MOST.false c.if-codes-gt-ITEMS_MOST.false c.if-sizes-gt-ITEMS_MOST.false c.any_above.ensures c.if-any_above.false c.any_low.ensures.value c.if-any_low.false c.if-codes-ids.false c.if-sizes-ids.false refl (eqb-false _ _ (sym c.sum_is.ensures ∙ from-not _ _ (ap not c.if-not-sum_is.true)))

pub returns-clause-value : goal.returns-clause-value
returns-clause-value c = none-refused _ _ _ _ _ c.if-rules-gt-ITEMS_MOST.false c.if-ids-gt-ITEMS_MOST.false c.if-codes-gt-ITEMS_MOST.false c.if-sizes-gt-ITEMS_MOST.false c.any_above.ensures c.if-any_above.false c.any_low.ensures.value c.if-any_low.false c.if-codes-ids.false c.if-sizes-ids.false refl (eqb-true _ _ (sym c.sum_is.ensures ∙ from-not _ _ (ap not c.if-not-sum_is.false)))
