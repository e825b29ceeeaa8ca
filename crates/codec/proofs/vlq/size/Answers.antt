use Rattle.std.proofs.Common.{◌≡◌, ◌+◌, ◌-◌, arith, rules}
use Rattle.codec.specs.Vlq.{vlq_bytes}
use Rattle.codec.proofs.Laws.Vlq.{length_last, length_more, length_one}
use Rattle.codec.proofs.vlq.size.Goals as goal

pub loop-n-init : goal.loop-n-init
unfolding vlq_bytes
loop-n-init c = search rules

pub returns-then-v-lt128 : goal.returns-then-v-lt128
returns-then-v-lt128 c = let l = c.loop-n in
    omega (arith, length_last (11 - l.n) l.v (omega arith) c.if-v-lt128.true)

pub loop-n-preserved : goal.loop-n-preserved
loop-n-preserved c = let l = c.loop-n in
    let e : 11 - (l.n + 1) ≡ 11 - l.n - 1 = omega arith in
    rw e (omega (arith, length_more (11 - l.n) l.v (omega arith) c.if-v-lt128.false))

pub returns : goal.returns
returns c = let l = c.loop-n in
    let e : 11 - l.n ≡ 1 = omega arith in
    let k = rw e at l.invariant in
    omega (arith, length_one l.v)
