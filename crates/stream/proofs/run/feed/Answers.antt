use Rattle.std.proofs.Common.{Ok, ◌-◌, length, arith}
use Rattle.stream.proofs.Laws.Feed.{Post, too_short_lem, begins, no-turns, no_more, line-room, used-fits, again}
use Rattle.stream.proofs.run.feed.Goals.{else-loop-test, then-loop-test+then-no_more}
use Rattle.stream.proofs.run.feed.Goals as goal

pub returns-then-too_short : goal.returns-then-too_short
returns-then-too_short c =
    let a = c.args in
    let told = too_short_lem a.run a.cells.now a.piece.now a.out.now _ c.too_short.ensures c.if-too_short.true in record {
      value = told.0;
      lent = told.1.0;
      lines = told.1.1.0;
      feeds = told.1.1.1.0;
      inside = told.1.1.1.1;
    }

pub loop-init : goal.loop-init
loop-init c = let a = c.args in begins a.run a.cells.now a.piece.now a.out.now _ c.too_short.ensures c.if-too_short.false

pub add-wrote-requires : goal.add-wrote-requires
add-wrote-requires c = let l = c.loop in let a = c.args in line-room a.run a.cells.now a.piece.now a.out.now (length a.piece.now - l.counter) l.at l.wrote l.state l.cells l.out l.invariant (omega (arith, c.loop-test.true)) _ c.no_more.ensures c.if-no_more.false

pub overflow_add-at : goal.overflow_add-at
overflow_add-at c = let l = c.loop in let a = c.args in let h = used-fits a.run a.cells.now a.piece.now a.out.now (length a.piece.now - l.counter) l.at l.wrote l.state l.cells l.out l.invariant (omega (arith, c.loop-test.true)) _ c.no_more.ensures c.if-no_more.false _ c.take_record-took.ensures.value _ c.take_record-took.ensures.lent in omega (arith, h)

pub loop-preserved : goal.loop-preserved
loop-preserved c =
    let l = c.loop in
    let a = c.args in
    again a.run a.cells.now a.piece.now a.out.now (length a.piece.now - l.counter) l.at l.wrote l.state l.cells l.out l.invariant (omega (arith, c.loop-test.true)) _ c.no_more.ensures c.if-no_more.false _ c.take_record-took.ensures.value _ c.take_record-took.ensures.lent
    c.take_record-took.auto.cells _ _ c.add-wrote.ensures _ (omega arith)

pub returns : goal.returns
returns c =
    let l = c.loop in
    let a = c.args in
    let told : Post a.run a.cells.now a.piece.now a.out.now (Ok c.stopped.result) l.cells l.out =
    elim c.loop-test.branch [
      | else-loop-test w ↦ no-turns a.run a.cells.now a.piece.now a.out.now (length a.piece.now - l.counter) l.at l.wrote l.state l.cells l.out l.invariant (omega (arith, w.loop-test.false)) _ c.stopped.ensures
      | then-loop-test+then-no_more w ↦ no_more a.run a.cells.now a.piece.now a.out.now (length a.piece.now - l.counter) l.at l.wrote l.state l.cells l.out l.invariant (omega (arith, w.loop-test.true)) _ w.no_more.ensures w.if-no_more.true _ c.stopped.ensures
    ] in record {
      value = told.0;
      lent = told.1.0;
      lines = told.1.1.0;
      feeds = told.1.1.1.0;
      inside = told.1.1.1.1;
    }
