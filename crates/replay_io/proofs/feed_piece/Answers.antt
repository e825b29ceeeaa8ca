use Rattle.std.proofs.KnownBytes.{Appends-nil, Appends-trans}
use Rattle.std.specs.Io.KnownBytes.{Appends}
use Rattle.replay_io.proofs.Laws.{going-starts, going-passes, going_on, going-cut}
use Rattle.replay_io.proofs.feed_piece.Goals as goal

pub loop-at-init : goal.loop-at-init
loop-at-init g c =
    let a = c.args in
    let k = g.W.Write.contents a.sink.now in
    going-starts (Appends k k) a.run a.cells.now a.piece.now a.output a.out.now c.requires (Appends-nil k)

pub unwrap-fed-requires : goal.unwrap-fed-requires
unwrap-fed-requires g c =
    let l = c.loop-at in
    let a = c.args in
    let f = c.feed in
    let e = f.ensures in
    let k = g.W.Write.contents a.sink.now in
    let k1 = g.W.Write.contents l.sink in
    going-passes (Appends k k1) a.run a.cells.now a.piece.now a.output a.out.now l.at l.state l.cells l.handed l.out l.invariant f.result f.new.cells f.new.out (e.value, (e.lent, (e.lines, e.feeds)))

pub returns-then-sent : goal.returns-then-sent
returns-then-sent g c =
    let l = c.loop-at in
    let a = c.args in
    let f = c.feed in
    let e = f.ensures in
    let m = c.hand_over-sent in
    let k = g.W.Write.contents a.sink.now in
    let k1 = g.W.Write.contents l.sink in
    let k2 = g.W.Write.contents m.new.sink in
    going-cut (Appends k k1) a.run a.cells.now a.piece.now a.output a.out.now l.at l.state l.cells l.handed l.out l.invariant f.result f.new.cells f.new.out
    (e.value, (e.lent, (e.lines, e.feeds))) c.unwrap-fed.result c.unwrap-fed.ensures m.result.failed _ m.ensures.booked (Appends k1 k2) (Appends k k2) m.ensures.bytes (λ s u. Appends-trans k k1 k2 s u) c.if-sent.true

pub loop-at-preserved : goal.loop-at-preserved
loop-at-preserved g c =
    let l = c.loop-at in
    let a = c.args in
    let f = c.feed in
    let e = f.ensures in
    let m = c.hand_over-sent in
    let k = g.W.Write.contents a.sink.now in
    let k1 = g.W.Write.contents l.sink in
    let k2 = g.W.Write.contents m.new.sink in
    going_on (Appends k k1) a.run a.cells.now a.piece.now a.output a.out.now l.at l.state l.cells l.handed l.out l.invariant f.result f.new.cells f.new.out
    (e.value, (e.lent, (e.lines, e.feeds))) c.unwrap-fed.result c.unwrap-fed.ensures m.result.failed _ m.ensures.booked (Appends k1 k2) (Appends k k2) m.ensures.bytes (λ s u. Appends-trans k k1 k2 s u) c.if-sent.false
    f.auto.cells f.auto.out
