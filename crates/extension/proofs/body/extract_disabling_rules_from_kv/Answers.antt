use mathlib.Core.Path.{sym, ◌∙◌}
use Rattle.extension.proofs.Laws.Body.{proposed-is, proposed-none}
use Rattle.extension.proofs.body.extract_disabling_rules_from_kv.Goals as goal

pub returns-in-Ok : goal.returns-in-Ok
returns-in-Ok c = c.find_update.ensures ∙ proposed-is _ _ (sym c.in-Ok.is ∙ c.parse_extension_bytes.ensures.value)

pub returns-in-Err : goal.returns-in-Err
returns-in-Err c = proposed-none _ _ (sym c.in-Err.is ∙ c.parse_extension_bytes.ensures.value)
