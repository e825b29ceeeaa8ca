use mathlib.Core.Bool.{not}
use Rattle.std.proofs.Common.{ap}
use Rattle.writers.proofs.Laws.Sizes.{from-not}
use Rattle.writers.proofs.Laws.Fields.{many-sizes, long-size, keys-differ, values-differ, none-differs}
use Rattle.writers.proofs.fields.check_lists.Goals as goal

pub returns-then-sizes-gt-FIELDS_MOST : goal.returns-then-sizes-gt-FIELDS_MOST
returns-then-sizes-gt-FIELDS_MOST c = many-sizes _ _ _ c.if-sizes-gt-FIELDS_MOST.true

pub returns-then-any_above : goal.returns-then-any_above
returns-then-any_above c = long-size _ _ _ c.if-sizes-gt-FIELDS_MOST.false c.any_above.ensures c.if-any_above.true

pub returns-then-keys-sizes : goal.returns-then-keys-sizes
returns-then-keys-sizes c = keys-differ _ _ _ c.if-sizes-gt-FIELDS_MOST.false c.any_above.ensures c.if-any_above.false c.if-keys-sizes.true

pub returns-then-not-sum_is : goal.returns-then-not-sum_is
returns-then-not-sum_is c = values-differ _ _ _ c.if-sizes-gt-FIELDS_MOST.false c.any_above.ensures c.if-any_above.false c.if-keys-sizes.false c.sum_is.ensures (from-not _ _ (ap not c.if-not-sum_is.true))

pub returns : goal.returns
returns c = none-differs _ _ _ c.if-sizes-gt-FIELDS_MOST.false c.any_above.ensures c.if-any_above.false c.if-keys-sizes.false c.sum_is.ensures (from-not _ _ (ap not c.if-not-sum_is.false))
