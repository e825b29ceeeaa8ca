use mathlib.Core.Path.{◌∙◌}
use Rattle.voting.proofs.Laws.Tests.{early}
use Rattle.extension.proofs.Laws.PackTrip.{parsed-again}
use Rattle.extension.proofs.body.parse_extension_bytes.Goals as goal

pub returns-in_err-head : goal.returns-in_err-head
returns-in_err-head c = let p = parsed-again _ _ (early _ c.from_residual.ensures.1 ∙ c.in_err-head.ensures.value) in
    record { value = p.0; again = p.1 }

pub returns : goal.returns
returns c = let p = parsed-again _ _ (c.fields_section.ensures ∙ c.in_ok-head.ensures.value) in
    record { value = p.0; again = p.1 }
