use Rattle.exports.proofs.Laws.{testnet-other}
use Rattle.exports.proofs.tables.network_of.Goals as goal

pub returns : goal.returns
returns c = testnet-other _ c.if-n-eq0.false
