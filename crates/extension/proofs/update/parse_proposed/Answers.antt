use mathlib.Core.Path.{sym, ◌∙◌}
use borrow.Author.Tests.{eqb-true, eqb-false}
use Rattle.voting.proofs.Laws.Tests.{early}
use Rattle.extension.proofs.Laws.Update.{proposed-long, proposed-empty, proposed-unread, proposed-read, rules-surveyed}
use Rattle.extension.proofs.update.parse_proposed.Goals as goal

pub returns-then-bytes-gt-INPUT_MOST : goal.returns-then-bytes-gt-INPUT_MOST
returns-then-bytes-gt-INPUT_MOST c = proposed-long _ _ c.if-bytes-gt-INPUT_MOST.true

pub returns-then-is_empty : goal.returns-then-is_empty
returns-then-is_empty c = proposed-empty _ _ c.if-bytes-gt-INPUT_MOST.false (eqb-true _ _ (sym c.if-is_empty.ensures)) _ c.no_update.ensures

pub returns-in_err-rules_from : goal.returns-in_err-rules_from
returns-in_err-rules_from c = early _ c.from_residual.ensures.1
    ∙ proposed-unread _ _ c.if-bytes-gt-INPUT_MOST.false (eqb-false _ _ (sym c.if-is_empty.ensures)) _ (sym c.in_err-rules_from.was ∙ c.rules_from.ensures)

pub with_rules-requires : goal.with_rules-requires
with_rules-requires c = rules-surveyed _ _ _ _ (sym c.in_ok-rules_from.was ∙ c.rules_from.ensures)

pub returns : goal.returns
returns c = c.with_rules.ensures
    ∙ proposed-read _ _ c.if-bytes-gt-INPUT_MOST.false (eqb-false _ _ (sym c.if-is_empty.ensures)) _ (sym c.in_ok-rules_from.was ∙ c.rules_from.ensures)
