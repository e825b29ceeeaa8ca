use Rattle.stream.proofs.Laws.Feed.{filled_none, filled-some, finished}
use Rattle.stream.proofs.run.finish.Goals as goal

pub returns-then-run-eq0 : goal.returns-then-run-eq0
returns-then-run-eq0 c = let a = c.args in record {
  value = (finished a.run a.cells.now a.out.now _ (filled_none _ c.if-run-eq0.true) _ _ (c.last.ensures.value, c.last.ensures.lines)).0;
  lines = (finished a.run a.cells.now a.out.now _ (filled_none _ c.if-run-eq0.true) _ _ (c.last.ensures.value, c.last.ensures.lines)).1.0;
  ends = (finished a.run a.cells.now a.out.now _ (filled_none _ c.if-run-eq0.true) _ _ (c.last.ensures.value, c.last.ensures.lines)).1.1;
}

pub returns : goal.returns
returns c = let a = c.args in record {
  value = (finished a.run a.cells.now a.out.now _ (filled-some _ c.if-run-eq0.false _ c.number.ensures) _ _ (c.last-2.ensures.value, c.last-2.ensures.lines)).0;
  lines = (finished a.run a.cells.now a.out.now _ (filled-some _ c.if-run-eq0.false _ c.number.ensures) _ _ (c.last-2.ensures.value, c.last-2.ensures.lines)).1.0;
  ends = (finished a.run a.cells.now a.out.now _ (filled-some _ c.if-run-eq0.false _ c.number.ensures) _ _ (c.last-2.ensures.value, c.last-2.ensures.lines)).1.1;
}
