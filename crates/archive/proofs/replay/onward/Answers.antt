use Rattle.archive.proofs.replay.onward.Goals as goal

pub returns : goal.returns
returns c = rw (c.unwrap_or.ensures, c.tally_votes_seeded.ensures, c.no_tally.ensures)
