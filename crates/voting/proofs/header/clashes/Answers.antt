use Rattle.voting.proofs.header.clashes.Goals as goal

pub returns : goal.returns
returns c = rw c.wrapping_add_u8.ensures.value
