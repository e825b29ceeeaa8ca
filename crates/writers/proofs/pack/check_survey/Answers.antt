use Rattle.writers.proofs.Laws.Pack.{many-fields, long-value, whole-only}
use Rattle.writers.proofs.pack.check_survey.Goals as goal

pub returns-then-w-gt-FIELDS_MOST : goal.returns-then-w-gt-FIELDS_MOST
returns-then-w-gt-FIELDS_MOST c = many-fields c.args.w c.if-w-gt-FIELDS_MOST.true

pub returns-then-w : goal.returns-then-w
returns-then-w c = long-value c.args.w c.if-w-gt-FIELDS_MOST.false c.if-w.true

pub returns : goal.returns
returns c = whole-only c.args.w c.if-w-gt-FIELDS_MOST.false c.if-w.false
