use Rattle.exports.proofs.Laws.{sized-is}
use Rattle.exports.proofs.writing.ergo_encode_validation_settings_update.Goals as goal

pub returns : goal.returns
returns c = sized-is c.encode_validation_settings_update.result c.size_of.ensures c.encode_validation_settings_update.ensures.out_after
