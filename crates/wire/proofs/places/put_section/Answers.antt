use Rattle.wire.specs.Places.{section_bytes}
use Rattle.wire.proofs.Back.{section-back}
use Rattle.wire.proofs.Laws.{joined}
use borrow.Author.Rules.{rules}
use Rattle.wire.proofs.places.put_section.Goals as goal

pub returns : goal.returns
unfolding section_bytes
returns c = let count = c.put_u32 in record {
  put = joined (joined count.ensures.put c.put_usize.ensures) c.put_usize-2.ensures;
  back = section-back _ (search rules);
}
