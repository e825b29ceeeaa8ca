-- Where parts of an input stand, in bytes: sections, updates, and what the readers of a body, an update and a record find. docs/VECTORS.md,
-- "Bytes".
-- Assumes nothing.
use Rattle.std.specs.Prelude.{ℕ, ◌+◌, ◌^◌, ◌<◌, List, ◌++◌}
use Rattle.codec.specs.Signed.{bits_of}
use Rattle.extension.specs.Section.{section}
use Rattle.extension.specs.declared.section.Section.{Section}
use Rattle.extension.specs.declared.body.FieldPlace.{FieldPlace}
use Rattle.extension.specs.declared.update.RulePlace.{RulePlace}
use Rattle.extension.specs.declared.update.StatusPlace.{StatusPlace}
use Rattle.extension.specs.declared.update.Update.{Update}
use Rattle.archive.specs.declared.record.RecordPlace.{RecordPlace}
use Rattle.wire.specs.Numbers.{number_at, number_bytes, four_bytes}

-- a section: 12 bytes, how many items, where they begin and end
unfoldable pub section_bytes : Section → List ℕ
section_bytes s = number_bytes s.count ++ number_bytes s.begin ++ number_bytes s.end

unfoldable pub section_at : List ℕ → ℕ → Section
section_at bytes at = section (number_at bytes at) (number_at bytes (at + 4)) (number_at bytes (at + 8))

-- an update: 24 bytes, its rules and its statuses
unfoldable pub update_bytes : Update → List ℕ
update_bytes u = section_bytes u.rules ++ section_bytes u.statuses

unfoldable pub update_at : List ℕ → ℕ → Update
update_at bytes at = record { rules = section_at bytes at; statuses = section_at bytes (at + 12) }

-- a field: 16 bytes, the key's two bytes, each as a number, and where the value begins and ends
unfoldable pub field_bytes : FieldPlace → List ℕ
field_bytes f = four_bytes f.key0 f.key1 f.start f.end

-- a rule: 8 bytes, its id, and the position after it
unfoldable pub rule_bytes : RulePlace → List ℕ
rule_bytes x = number_bytes x.id ++ number_bytes x.next

-- a status: 16 bytes, the 16 bits of its rule's id, the code, and where the raw bytes begin and end
unfoldable pub status_bytes : StatusPlace → List ℕ
status_bytes x = four_bytes (bits_of 16 x.rule.0) x.code x.start x.end

-- a record: 20 bytes, the height, where the body begins and ends, where the votes begin, and where they and the record end
unfoldable pub record_bytes : RecordPlace → List ℕ
record_bytes p = four_bytes p.height p.body p.body_end p.votes ++ number_bytes p.end

-- positions of fewer than 2^32: those of every body and update that is accepted, since these have 65,536 bytes at most
pub record Narrow (s : Section) : Type 0 where
  pub begin-fits : s.begin < 2 ^ 32
  pub end_fits : s.end < 2 ^ 32
