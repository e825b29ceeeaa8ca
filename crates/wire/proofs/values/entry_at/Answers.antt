use Rattle.std.proofs.Common.{rules, w8}
use Rattle.wire.specs.Values.{entry_at}
use Rattle.wire.proofs.Laws.{signed_is}
use Rattle.wire.proofs.values.entry_at.Goals as goal

pub returns : goal.returns
unfolding entry_at
returns c = let z = c.cast_signed in
    rw (signed_is w8 z.result (search rules) _ z.ensures, c.byte_at.ensures, c.u32_at.ensures)
