use Rattle.exports.proofs.Laws.{sized-is}
use Rattle.exports.proofs.writing.ergo_encode_disabled_rules.Goals as goal

pub returns : goal.returns
returns c = sized-is c.encode_disabled_rules.result c.size_of.ensures c.encode_disabled_rules.ensures.out_after
