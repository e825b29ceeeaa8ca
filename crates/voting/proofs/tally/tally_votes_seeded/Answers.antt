use Rattle.std.proofs.Common.{sym, arith}
use Rattle.voting.proofs.Laws.Tally.{whole_length, window-long, window-elsewhere, window-here}
use Rattle.voting.proofs.tally.tally_votes_seeded.Goals as goal

pub returns-then-n-gt65536 : goal.returns-then-n-gt65536
returns-then-n-gt65536 c = window-long _ _ _ _ c.if-n-gt65536.true

pub returns-then-first_height-voting_length : goal.returns-then-first_height-voting_length
returns-then-first_height-voting_length c = window-elsewhere _ _ _ _ c.if-n-gt65536.false c.if-first_height-voting_length.true c.no_tally.ensures

pub slice_bounds-epoch_tally-end : goal.slice_bounds-epoch_tally-end
slice_bounds-epoch_tally-end c = sym (whole_length c.args.votes.now)

pub epoch_tally-requires : goal.epoch_tally-requires
epoch_tally-requires c = rw (whole_length c.args.votes.now) (omega (arith, c.if-n-gt65536.false))

pub returns : goal.returns
returns c = window-here _ _ _ _ c.if-n-gt65536.false c.if-first_height-voting_length.false c.epoch_tally.ensures
