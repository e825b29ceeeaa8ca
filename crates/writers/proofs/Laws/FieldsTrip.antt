-- Fields that were written are read back.
-- Assumes nothing.
use Rattle.std.proofs.Common.{◌≡◌, ℕ, ◌≤◌, false, List, length, ◌∙◌, arith}
use Rattle.codec.specs.Check.{passed}
use Rattle.extension.specs.Section.{any}
use Rattle.extension.specs.Body.{Field}
use Rattle.extension.specs.Pack.{wire_fields, long_value, check_fields}
use Rattle.extension.proofs.Laws.PackTrip.{fine}
use Rattle.writers.specs.Fields.{field_list, fields_bytes, check_lists, FieldsBack}
use Rattle.writers.proofs.Laws.Fields.{fitting, fields-count, fields-short, fields-listed}
use Rattle.writers.proofs.Laws.PackTrip.{packed-back}

module _ (fs : List Field) (few : length fs ≤ 65536) (short : any long_value fs ≡ false) where
  pack : check_fields (wire_fields (fields_bytes fs)) ≡ passed
  pack = fine (wire_fields (fields_bytes fs)) fs (fields-listed fs) few short

  back : FieldsBack fs
  back = record {
    packs = pack;
    parsed = λ header l room. (packed-back header (fields_bytes fs) l pack room).parsed;
    same = λ header l room. (packed-back header (fields_bytes fs) l pack room).same-fields ∙ (fields-listed fs).0;
  }

pub fields_back : (keys sizes values : List ℕ) → check_lists keys sizes values ≡ passed → FieldsBack (field_list keys sizes values)
fields_back keys sizes values z =
    let f = fitting keys sizes values z in
    back (field_list keys sizes values) (omega (arith, fields-count keys sizes values f.2, f.0)) (fields-short keys sizes values f.1)
