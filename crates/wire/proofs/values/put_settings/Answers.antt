use Rattle.wire.specs.Numbers.{four_bytes}
use Rattle.wire.proofs.Back.{settings-back}
use Rattle.wire.specs.Values.{settings_bytes}
use Rattle.wire.proofs.Laws.{joined}
use borrow.Author.Rules.{rules}
use Rattle.wire.proofs.values.put_settings.Goals as goal

pub returns : goal.returns
unfolding settings_bytes four_bytes
returns c = record {
  put = joined (joined (joined c.put_u32.ensures.put c.put_u32-2.ensures.put) c.put_u32-3.ensures.put) c.put_u32-4.ensures.put;
  back = settings-back _ (search rules) (search rules) (search rules) (search rules);
}
