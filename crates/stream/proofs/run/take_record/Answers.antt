use Rattle.stream.proofs.Laws.Run.{took, over-took, used-inside, used-fits, room-took}
use Rattle.std.proofs.Common.{rules}
use Rattle.stream.proofs.run.take_record.Goals as goal

pub returns-then-run : goal.returns-then-run
returns-then-run c = record {
  value = (over-took _ _ _ c.if-run.true _ c.taken_all.ensures).0;
  lent = (over-took _ _ _ c.if-run.true _ c.taken_all.ensures).1;
}

pub slice_bounds-put_bytes-end : goal.slice_bounds-put_bytes-end
slice_bounds-put_bytes-end c = took _ _ (used-inside c.args.run c.args.cells.now c.args.piece.now c.requires.0 c.requires.1 _ c.taken-used.ensures)

pub overflow_add-filled : goal.overflow_add-filled
overflow_add-filled c = let h = used-fits c.args.run c.args.cells.now c.args.piece.now c.requires.0 c.requires.1 _ c.taken-used.ensures in search rules

pub slice_bounds-on_bytes-end : goal.slice_bounds-on_bytes-end
slice_bounds-on_bytes-end c = let h = used-fits c.args.run c.args.cells.now c.args.piece.now c.requires.0 c.requires.1 _ c.taken-used.ensures in search rules

pub slice_bounds-on_bytes-end-2 : goal.slice_bounds-on_bytes-end-2
slice_bounds-on_bytes-end-2 c = let h = used-fits c.args.run c.args.cells.now c.args.piece.now c.requires.0 c.requires.1 _ c.taken-used.ensures in took _ _ (search rules)

pub returns : goal.returns
returns c = record {
  value = (room-took c.args.run c.args.cells.now c.args.piece.now c.requires.0 c.requires.1 _ c.taken-used.ensures c.if-run.false _ c.put_bytes.ensures _ c.on_bytes.ensures).0;
  lent = (room-took c.args.run c.args.cells.now c.args.piece.now c.requires.0 c.requires.1 _ c.taken-used.ensures c.if-run.false _ c.put_bytes.ensures _ c.on_bytes.ensures).1;
}
