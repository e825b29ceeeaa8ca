use mathlib.Core.Path.{sym, ◌∙◌}
use Rattle.extension.proofs.Laws.Body.{id-none, id-here, id-size}
use Rattle.extension.proofs.body.header_id.Goals as goal

pub slice_bounds-result-end : goal.slice_bounds-result-end
slice_bounds-result-end c = id-size _ _ (sym c.in-Ok.is ∙ c.parse_extension_bytes.ensures.value)

pub returns-in-Ok : goal.returns-in-Ok
returns-in-Ok c = id-here _ _ (sym c.in-Ok.is ∙ c.parse_extension_bytes.ensures.value)

pub returns-in-Err : goal.returns-in-Err
returns-in-Err c = id-none _ _ (sym c.in-Err.is ∙ c.parse_extension_bytes.ensures.value)
