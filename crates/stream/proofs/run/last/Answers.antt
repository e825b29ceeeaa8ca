use Rattle.stream.proofs.Laws.Feed.{last-short, last-over, last-room, last_line, end-text}
use Rattle.stream.proofs.run.last.Goals as goal

pub returns-then-too_short : goal.returns-then-too_short
returns-then-too_short c = let a = c.args in record {
  value = (last-short a.run a.cells.now a.n a.out.now _ c.too_short.ensures c.if-too_short.true).0;
  lines = (last-short a.run a.cells.now a.n a.out.now _ c.too_short.ensures c.if-too_short.true).1;
}

pub returns-then-run : goal.returns-then-run
returns-then-run c = let a = c.args in record {
  value = (last-over a.run a.cells.now a.n a.out.now _ c.too_short.ensures c.if-too_short.false c.if-run.true _ c.stopped.ensures).0;
  lines = (last-over a.run a.cells.now a.n a.out.now _ c.too_short.ensures c.if-too_short.false c.if-run.true _ c.stopped.ensures).1;
}

pub add-wrote-requires : goal.add-wrote-requires
add-wrote-requires c = let a = c.args in last-room a.run a.cells.now a.n a.out.now _ c.too_short.ensures c.if-too_short.false

pub returns : goal.returns
returns c = let a = c.args in record {
  value = (last_line a.run a.cells.now a.n a.out.now _ c.too_short.ensures c.if-too_short.false c.if-run.false _ (end-text _ _ _ c.end_print.ensures) _ _ c.add-wrote.ensures _ c.end_run.ensures _ c.stopped-2.ensures).0;
  lines = (last_line a.run a.cells.now a.n a.out.now _ c.too_short.ensures c.if-too_short.false c.if-run.false _ (end-text _ _ _ c.end_print.ensures) _ _ c.add-wrote.ensures _ c.end_run.ensures _ c.stopped-2.ensures).1;
}
