use Rattle.wire.specs.Places.{section_bytes}
use mathlib.Core.Path.{sym, ◌∙◌}
use Rattle.exports.proofs.Laws.{into-ok, tells, numbered_is}
use Rattle.exports.proofs.body.ergo_parse_extension_bytes.Goals as goal

pub returns-in-Ok : goal.returns-in-Ok
returns-in-Ok c = numbered_is c.write_section.result c.number_of.ensures (c.write_section.ensures.out_after ∙ into-ok section_bytes _ (sym c.in-Ok.is ∙ c.parse_extension_bytes.ensures.value))

pub returns-in-Err : goal.returns-in-Err
returns-in-Err c = tells section_bytes _ (sym c.in-Err.is ∙ c.parse_extension_bytes.ensures.value) c.number.ensures
