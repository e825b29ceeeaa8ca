use Rattle.std.proofs.Common.{sym, subst, ◌∙◌}
use Rattle.std.specs.Prelude.{OnErr}
use Rattle.support.specs.Window.{made, Closed}
use Rattle.support.specs.declared.window.Window.{Window}
use Rattle.support.proofs.Laws.Calls.{made-is, refused-closed}
use Rattle.support.proofs.window.made.Goals as goal

pub returns-clause-value : goal.returns-clause-value
unfolding made
returns-clause-value c = c.unwrap_or.ensures ∙ made-is c.args.answer (λ e. c.empty.ensures)

pub returns-clause-closed : goal.returns-clause-closed
unfolding made
returns-clause-closed c = subst (λ (w : Window). OnErr c.args.answer (Closed w)) (sym (c.unwrap_or.ensures ∙ made-is c.args.answer (λ e. c.empty.ensures))) (refused-closed c.args.answer)
