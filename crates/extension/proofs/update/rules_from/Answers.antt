use mathlib.Core.Path.{refl, sym, ap, ◌∙◌}
use lib.Dec.{eqb}
use Rattle.voting.proofs.Laws.Tests.{early}
use Rattle.extension.specs.Mandatory.{mandatory_rule}
use Rattle.extension.proofs.Laws.Mandatory.{flag-of}
use Rattle.extension.proofs.Laws.Section.{left_none, left-stop, left-item, closed-done, closed-stop, closed-item}
use Rattle.extension.proofs.Laws.Update.{rule-read, rule-unread, gather-item, gather-done, rules-refused, rules-ended, from-count, from-unreadable}
use Rattle.extension.specs.Rules.{rules_of}
use Rattle.extension.proofs.update.rules_from.Goals as goal

pub returns-in_err-x : goal.returns-in_err-x
returns-in_err-x c = early _ c.from_residual-in_err-x.ensures.1
    ∙ rules-refused _ _ _ _
    (closed-stop _ _ _ _ (left-stop _ _ _ _ c.loop-test.true _ (rule-unread _ _ _ (sym c.in_err-x.was ∙ c.read_rule.ensures))) ∙ c.loop.invariant.0 ∙ from-count _ _ _ (sym c.in_ok-count.was ∙ c.items_at.ensures))

pub loop-preserved : goal.loop-preserved
loop-preserved c = let here = left-item _ _ _ _ c.loop-test.true _ _ (rule-read _ _ _ (sym c.in_ok-x.was ∙ c.read_rule.ensures)) in (
  closed-item _ _ _ _ _ here ∙ c.loop.invariant.0,
  gather-item mandatory_rule _ _ _ here c.loop.mandatory _ (c.flag_in-mandatory.ensures ∙ flag-of _ _ c.mandatory_flags-flags.ensures) ∙ c.loop.invariant.1,
  gather-item (eqb _) _ _ _ here c.loop.listed _ refl ∙ c.loop.invariant.2,
)

pub returns : goal.returns
returns c = let none = left_none _ _ _ _ c.loop-test.false in
    rules-ended _ _ _ _ _ _ (closed-done _ _ _ _ none ∙ c.loop.invariant.0) _ _
    (gather-done mandatory_rule _ _ none _ ∙ c.loop.invariant.1)
    (gather-done (eqb _) _ _ none _ ∙ c.loop.invariant.2)
    ∙ ap (rules_of _ _) (from-count _ _ _ (sym c.in_ok-count.was ∙ c.items_at.ensures))

pub returns-in_err-count : goal.returns-in_err-count
returns-in_err-count c = early _ c.from_residual.ensures.1 ∙ rules-refused _ _ _ _ (from-unreadable _ _ _ (sym c.in_err-count.was ∙ c.items_at.ensures))
