use Rattle.exports.proofs.Laws.{sized-is}
use Rattle.exports.proofs.writing.ergo_pack_fields.Goals as goal

pub returns : goal.returns
returns c = let packed = c.pack_fields in
    sized-is packed.result c.size_of.ensures packed.ensures.out_after
