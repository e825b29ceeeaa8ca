use Rattle.exports.proofs.Laws.{sized-is}
use Rattle.exports.proofs.records.ergo_write_head.Goals as goal

pub returns : goal.returns
returns c = sized-is c.write_head.result c.size_of.ensures c.write_head.ensures
