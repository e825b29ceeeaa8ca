use Rattle.std.proofs.Common.{rules}
use Rattle.counting.proofs.Laws.Count.{count-is_count_by}
use Rattle.counting.proofs.times_in_few.Goals as goal

pub returns : goal.returns
returns c = rw count-is_count_by (search rules)
