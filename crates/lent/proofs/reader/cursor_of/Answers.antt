use mathlib.Core.Path.{sym, subst, ◌∙◌}
use Rattle.voting.proofs.Laws.Tests.{early}
use Rattle.lent.specs.Reader.{Begins}
use Rattle.lent.proofs.Laws.Reader.{cursor-refused, begins-refused, cursor-is, begins}
use Rattle.lent.proofs.reader.cursor_of.Goals as goal

pub returns-in_err-fields : goal.returns-in_err-fields
returns-in_err-fields c =
    let r = early _ c.from_residual.ensures.1 in
    let is_e = sym c.in_err-fields.was ∙ c.parse_extension_bytes.ensures.value in
    record {
      value = r ∙ cursor-refused _ _ is_e;
      begins = subst (Begins _) (sym r) (begins-refused _ _ is_e);
    }

pub returns : goal.returns
returns c =
    let is_x = sym c.in_ok-fields.was ∙ c.parse_extension_bytes.ensures.value in
    record { value = cursor-is _ _ is_x; begins = begins _ _ is_x }
