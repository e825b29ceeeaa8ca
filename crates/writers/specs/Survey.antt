-- The code's shape, which need not be believed: a list of fields walked once, and the refusal by what the walk found. The law
-- `check-survey` of crates/writers/proofs/Laws/Pack.antt joins it to `check_fields`.
-- Assumes nothing.
use Rattle.std.specs.Prelude.{Err, cond, length, nat_lt}
use Rattle.codec.specs.declared.refusal.Refusal.TheVariants.{InputLong, WrittenValueLong}
use Rattle.codec.specs.Check.{Check}
use Rattle.extension.specs.Section.{Listing, items, all_read, any}
use Rattle.extension.specs.Body.{Field}
use Rattle.extension.specs.Pack.{long_value}
use Rattle.writers.specs.declared.pack.Survey.{Survey}

unfoldable pub surveyed : Listing Field → Survey
surveyed l = record { count = length (items l); long = any long_value (items l); whole = all_read l }

unfoldable pub check_survey : Survey → Check
check_survey w = cond (nat_lt 65536 w.count) (Err InputLong) (cond w.long (Err WrittenValueLong) w.whole)
