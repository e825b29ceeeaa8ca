use mathlib.Core.List.{List}
use Prim.Native.Nat.{ℕ}
use Rattle.codec.specs.Output.{writes}
use mathlib.Core.Path.{ap, ◌∙◌}
use Rattle.exports.proofs.Laws.{sized-is}
use Rattle.exports.proofs.body.ergo_extract_disabling_rules_from_kv.Goals as goal

pub returns : goal.returns
returns c = sized-is c.write_bytes.result c.size_of.ensures (c.write_bytes.ensures ∙ ap (λ (x : List ℕ). writes x c.args.out.now) c.extract_disabling_rules_from_kv-part.ensures)
