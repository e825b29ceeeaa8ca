use Rattle.stream.specs.Run.{text_of}
use Rattle.stream.proofs.Laws.Added.{added, added-never, added-most}
use Rattle.std.proofs.Common.{rules}
use Rattle.stream.proofs.run.add.Goals as goal

pub overflow_add-result : goal.overflow_add-result
overflow_add-result c = let b = added-most c.args.out.now c.args.wrote c.requires (text_of c.args.print) c.write.ensures.short _ _ c.write.ensures.out_after _ c.in-Ok.is in search rules

pub returns-in-Ok : goal.returns-in-Ok
returns-in-Ok c = added c.args.out.now c.args.wrote c.requires (text_of c.args.print) c.write.ensures.short _ _ c.write.ensures.out_after _ c.in-Ok.is

pub returns-in-Err : goal.returns-in-Err
returns-in-Err c = absurd (added-never c.args.out.now c.args.wrote c.requires (text_of c.args.print) c.write.ensures.short _ _ c.write.ensures.out_after _ c.in-Err.is)
