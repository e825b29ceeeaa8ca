use Rattle.headers.proofs.Laws.Lanes.{all-legal, three-parts}
use mathlib.Core.Path.{refl}
use Prim.Native.Nat.{◌/◌}
use lib.ListN.{length}
use Rattle.headers.proofs.lanes.any_illegal.Goals as goal

pub returns-then-n-lt17 : goal.returns-then-n-lt17
returns-then-n-lt17 c = λ e. all-legal _ (c.few_illegal.ensures e)

pub returns : goal.returns
returns c = let s = c.args.votes.now in
    three-parts s (length s / 3) refl c.if-n-lt17.false _ _ _ c.blocks_illegal-blocks.ensures c.block_illegal-over.ensures c.header_illegal-last.ensures
