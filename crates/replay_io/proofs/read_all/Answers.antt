use Rattle.std.proofs.Common.{arith, ◌≡◌, ◌-◌, ◌<◌, ◌∙◌, subst, sym, refl, length, rules}
use Rattle.std.proofs.KnownBytes.{Appends-trans, Consumes-nil, Consumes-trans}
use Rattle.std.specs.Io.KnownBytes.{Appends, Consumes, IsAtEnd}
use Rattle.stream.specs.Lines.{head_line}
use Rattle.replay_io.specs.Replays.{GoesOn, IsEmpty}
use Rattle.replay_io.proofs.Laws.{handed-text, handed-booked, last-passes, last-wrote, still-above, reading-as, ends-finish, ends-fail, ends-cut, ends-over, ends-long, reading-on}
use Rattle.replay_io.proofs.read_all.Goals as goal

pub loop-init : goal.loop-init
loop-init g c =
    let a = c.args in
    let s = g.R.Read.remaining a.source.now in
    let k = g.W.Write.contents a.sink.now in (
      reading-as IsEmpty (λ t. t ≡ head_line) (Consumes s s) (GoesOn head_line k k) a.from a.to 18446744073709551615 a.run a.cells.now a.input a.output
          (λ l e. subst (Consumes s s) (sym e) (Consumes-nil s)) (λ l e. λ before h. subst (Appends before k) (sym e) h) c.requires.0,
      c.requires.1,
      refl,
      refl,
      refl,
    )

pub unwrap-fed-requires : goal.unwrap-fed-requires
unwrap-fed-requires g c = last-passes _ _ _ _ _ c.fail.ensures.value c.loop.invariant.0.ready c.loop.invariant.1

pub unwrap-fed-requires-then-n-eq0 : goal.unwrap-fed-requires-then-n-eq0
unwrap-fed-requires-then-n-eq0 g c = last-passes _ _ _ _ _ c.finish.ensures.value c.loop.invariant.0.ready c.loop.invariant.1

pub returns-then-came : goal.returns-then-came
returns-then-came g c =
    let l = c.loop in
    let a = c.args in
    let m = c.receive-came in
    let r = m.result in
    let s = g.R.Read.remaining a.source.now in
    let s1 = g.R.Read.remaining l.source in
    let s2 = g.R.Read.remaining m.new.source in
    let k = g.W.Write.contents a.sink.now in
    let k1 = g.W.Write.contents l.sink in
    let sent = c.hand_over-sent in
    let k2 = g.W.Write.contents sent.new.sink in
    let n = last-wrote _ _ _ _ _ c.fail.ensures.value _ c.unwrap-fed.ensures in
    ends-fail (Consumes s s1) (GoesOn head_line k k1) a.from a.to (18446744073709551615 - l.counter) l.state l.cells l.got l.handed l.invariant.0 r.failed r.input r.count m.new.buf m.ensures.booked
    (Consumes s s2) (GoesOn head_line k k2) (Consumes s1 s2) (Appends k1 k2) (0 < length a.buf.now → IsAtEnd s2) m.ensures.bytes (λ x y. Consumes-trans s s1 s2 x y)
    (λ x y f h. λ before e. Appends-trans before k1 k2 x y (f before e) h)
    c.if-came.true (m.ensures.none c.if-came.true) _ l.invariant.1 sent.result.failed _ (handed-booked _ _ _ c.fail.ensures.lines _ n l.handed sent.result.failed _ sent.ensures.booked)
    (λ u. subst (Appends k1 k2) (handed-text _ _ _ c.fail.ensures.lines _ n) (sent.ensures.bytes u)) _ c.stopped.ensures

pub returns-then-n-eq0 : goal.returns-then-n-eq0
returns-then-n-eq0 g c =
    let l = c.loop in
    let a = c.args in
    let m = c.receive-came in
    let r = m.result in
    let s = g.R.Read.remaining a.source.now in
    let s1 = g.R.Read.remaining l.source in
    let s2 = g.R.Read.remaining m.new.source in
    let k = g.W.Write.contents a.sink.now in
    let k1 = g.W.Write.contents l.sink in
    let sent = c.hand_over-sent-then-n-eq0 in
    let k2 = g.W.Write.contents sent.new.sink in
    let n = last-wrote _ _ _ _ _ c.finish.ensures.value _ c.unwrap-fed-then-n-eq0.ensures in
    ends-finish (Consumes s s1) (GoesOn head_line k k1) a.from a.to (18446744073709551615 - l.counter) l.state l.cells l.got l.handed l.invariant.0 r.failed r.input r.count m.new.buf m.ensures.booked
    (Consumes s s2) (GoesOn head_line k k2) (Consumes s1 s2) (Appends k1 k2) (0 < length a.buf.now → IsAtEnd s2) m.ensures.bytes (λ x y. Consumes-trans s s1 s2 x y)
    (λ x y f h. λ before e. Appends-trans before k1 k2 x y (f before e) h)
    c.if-came.false c.if-n-eq0.true _ l.invariant.1 sent.result.failed _ (handed-booked _ _ _ c.finish.ensures.lines _ n l.handed sent.result.failed _ sent.ensures.booked)
    (λ u. subst (Appends k1 k2) (handed-text _ _ _ c.finish.ensures.lines _ n) (sent.ensures.bytes u)) (search rules) _ c.stopped-then-n-eq0.ensures

pub returns-then-passed : goal.returns-then-passed
returns-then-passed g c =
    let l = c.loop in
    let a = c.args in
    let m = c.receive-came in
    let r = m.result in
    let s = g.R.Read.remaining a.source.now in
    let s1 = g.R.Read.remaining l.source in
    let s2 = g.R.Read.remaining m.new.source in
    let k = g.W.Write.contents a.sink.now in
    let k1 = g.W.Write.contents l.sink in
    let k2 = g.W.Write.contents c.feed_piece-passed.new.sink in
    ends-cut (Consumes s s1) (GoesOn head_line k k1) a.from a.to (18446744073709551615 - l.counter) l.state l.cells l.got l.handed l.invariant.0 r.failed r.input r.count m.new.buf m.ensures.booked
    (Consumes s s2) (GoesOn head_line k k2) (Consumes s1 s2) (Appends k1 k2) (0 < length a.buf.now → IsAtEnd s2) m.ensures.bytes (λ x y. Consumes-trans s s1 s2 x y)
    (λ x y f h. λ before e. Appends-trans before k1 k2 x y (f before e) h)
    c.if-came.false c.if-n-eq0.false c.feed_piece-passed.result.at c.feed_piece-passed.result.run c.feed_piece-passed.new.cells c.feed_piece-passed.result.failed c.feed_piece-passed.result.output c.feed_piece-passed.ensures.0 c.if-passed.true _ c.stopped-then-passed.ensures

pub returns-then-state : goal.returns-then-state
returns-then-state g c =
    let l = c.loop in
    let a = c.args in
    let m = c.receive-came in
    let r = m.result in
    let s = g.R.Read.remaining a.source.now in
    let s1 = g.R.Read.remaining l.source in
    let s2 = g.R.Read.remaining m.new.source in
    let k = g.W.Write.contents a.sink.now in
    let k1 = g.W.Write.contents l.sink in
    let k2 = g.W.Write.contents c.feed_piece-passed.new.sink in
    ends-over (Consumes s s1) (GoesOn head_line k k1) a.from a.to (18446744073709551615 - l.counter) l.state l.cells l.got l.handed l.invariant.0 r.failed r.input r.count m.new.buf m.ensures.booked
    (Consumes s s2) (GoesOn head_line k k2) (Consumes s1 s2) (Appends k1 k2) (0 < length a.buf.now → IsAtEnd s2) m.ensures.bytes (λ x y. Consumes-trans s s1 s2 x y)
    (λ x y f h. λ before e. Appends-trans before k1 k2 x y (f before e) h)
    c.if-came.false c.if-n-eq0.false c.feed_piece-passed.result.at c.feed_piece-passed.result.run c.feed_piece-passed.new.cells c.feed_piece-passed.result.failed c.feed_piece-passed.result.output c.feed_piece-passed.ensures.0 c.if-passed.false c.if-state.true _ c.stopped-then-state.ensures

pub loop-preserved : goal.loop-preserved
loop-preserved g c =
    let l = c.loop in
    let a = c.args in
    let m = c.receive-came in
    let r = m.result in
    let s = g.R.Read.remaining a.source.now in
    let s1 = g.R.Read.remaining l.source in
    let s2 = g.R.Read.remaining m.new.source in
    let k = g.W.Write.contents a.sink.now in
    let k1 = g.W.Write.contents l.sink in
    let k2 = g.W.Write.contents c.feed_piece-passed.new.sink in
    let f = c.feed_piece-passed in
    let i = l.invariant in (
      reading-on (Consumes s s1) (GoesOn head_line k k1) a.from a.to (18446744073709551615 - l.counter) l.state l.cells l.got l.handed l.invariant.0 r.failed r.input r.count m.new.buf m.ensures.booked
          (Consumes s s2) (GoesOn head_line k k2) (Consumes s1 s2) (Appends k1 k2) (0 < length a.buf.now → IsAtEnd s2) m.ensures.bytes (λ x y. Consumes-trans s s1 s2 x y)
          (λ x y f h. λ before e. Appends-trans before k1 k2 x y (f before e) h)
          c.if-came.false c.if-n-eq0.false c.feed_piece-passed.result.at c.feed_piece-passed.result.run c.feed_piece-passed.new.cells c.feed_piece-passed.result.failed c.feed_piece-passed.result.output c.feed_piece-passed.ensures.0 c.if-passed.false (f.ensures.1 c.if-passed.false) c.if-state.false (omega (arith, c.loop-test.true)) m.ensures.within _ (omega arith),
      still-above _ _ _ f.auto.out i.1,
      f.auto.cells ∙ i.2,
      m.auto.buf ∙ i.3,
      f.auto.out ∙ i.4,
    )

pub returns : goal.returns
returns g c =
    let l = c.loop in
    let a = c.args in
    let s = g.R.Read.remaining a.source.now in
    let s1 = g.R.Read.remaining l.source in
    let k = g.W.Write.contents a.sink.now in
    let k1 = g.W.Write.contents l.sink in
    ends-long (Consumes s s1) (GoesOn head_line k k1) a.from a.to (18446744073709551615 - l.counter) l.state l.cells l.got l.handed l.invariant.0 (0 < length a.buf.now → IsAtEnd s1) (omega (arith, c.loop-test.false)) _ c.stopped-2.ensures
