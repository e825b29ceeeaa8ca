use Rattle.exports.proofs.Laws.{sized-is}
use Rattle.exports.proofs.records.ergo_write_end.Goals as goal

pub returns : goal.returns
returns c = sized-is c.write_end.result c.size_of.ensures c.write_end.ensures
