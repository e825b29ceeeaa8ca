use Rattle.extension.proofs.Laws.Update.{count_small, count-large}
use Rattle.extension.proofs.update.count_in.Goals as goal

pub returns-then-n-lt2147483648 : goal.returns-then-n-lt2147483648
returns-then-n-lt2147483648 c = count_small _ c.if-n-lt2147483648.true

pub returns-else-n-lt2147483648 : goal.returns-else-n-lt2147483648
returns-else-n-lt2147483648 c = count-large _ c.if-n-lt2147483648.false
