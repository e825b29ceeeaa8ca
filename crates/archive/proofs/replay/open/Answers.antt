use Rattle.archive.proofs.Laws.Replay.{open-opens, open-refused}
use Rattle.archive.proofs.replay.open.Goals as goal

pub returns-then-may_open : goal.returns-then-may_open
returns-then-may_open c = let o = open-opens _ _ _ c.may_open.ensures c.if-may_open.true _ c.start.ensures in
    record { value = o.0; rounds = o.1.0; steps = o.1.1.0; mainnet_steps = o.1.1.1 }

pub returns : goal.returns
returns c = let o = open-refused _ _ _ c.may_open.ensures c.if-may_open.false in
    record { value = o.0; rounds = o.1.0; steps = o.1.1.0; mainnet_steps = o.1.1.1 }
