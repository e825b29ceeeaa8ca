use mathlib.Core.List.{List}
use Prim.Native.Nat.{ℕ}
use Rattle.writers.specs.Pack.{pack_extension}
use mathlib.Core.Path.{ap, ◌∙◌}
use Rattle.exports.proofs.Laws.{sized-is}
use Rattle.exports.proofs.writing.ergo_pack_extension_bytes.Goals as goal

pub returns : goal.returns
returns c = sized-is c.pack_extension_bytes.result c.size_of.ensures (c.pack_extension_bytes.ensures.out_after ∙ ap (λ (x : List ℕ). pack_extension x c.args.fields.now c.args.out.now) c.header_id_of-id.ensures)
