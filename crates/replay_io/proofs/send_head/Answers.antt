use Rattle.std.proofs.Common.{subst, rules}
use Rattle.std.specs.Io.KnownBytes.{Appends}
use Rattle.replay_io.proofs.Laws.{head-passes, head-inside, head-sent, head-is}
use Rattle.replay_io.proofs.send_head.Goals as goal

pub unwrap-n-requires : goal.unwrap-n-requires
unwrap-n-requires g c = head-passes c.args.out.now c.requires _ _ c.write_head.ensures

pub hand_over-requires : goal.hand_over-requires
hand_over-requires g c = let h = head-inside c.args.out.now c.requires _ _ c.write_head.ensures _ c.unwrap-n.ensures in search rules

pub returns : goal.returns
returns g c = record {
  booked = head-sent c.args.out.now c.requires _ _ c.write_head.ensures _ c.unwrap-n.ensures c.args.output c.hand_over.result.failed _ c.hand_over.ensures.booked;
  bytes = λ f. subst (Appends _ _) (head-is c.args.out.now c.requires _ _ c.write_head.ensures _ c.unwrap-n.ensures) (c.hand_over.ensures.bytes f);
}
