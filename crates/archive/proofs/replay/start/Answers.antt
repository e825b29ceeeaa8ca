use Rattle.archive.proofs.replay.start.Goals as goal

pub returns : goal.returns
returns c = rw (c.mainnet.ensures, c.no_tally.ensures)
