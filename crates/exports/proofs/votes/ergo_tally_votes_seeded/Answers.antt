use Rattle.wire.specs.Values.{tally_bytes}
use mathlib.Core.Path.{sym, ◌∙◌}
use Rattle.exports.proofs.Laws.{into-ok, tells, numbered_is}
use Rattle.exports.proofs.votes.ergo_tally_votes_seeded.Goals as goal

pub returns-in-Ok : goal.returns-in-Ok
returns-in-Ok c = numbered_is c.write_tally.result c.number_of.ensures (c.write_tally.ensures.out_after ∙ into-ok tally_bytes _ (sym c.in-Ok.is ∙ c.tally_votes_seeded.ensures))

pub returns-in-Err : goal.returns-in-Err
returns-in-Err c = tells tally_bytes _ (sym c.in-Err.is ∙ c.tally_votes_seeded.ensures) c.number.ensures
