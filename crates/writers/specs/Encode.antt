-- Settings updates written, and read back. docs/RULES.md, "Settings update" and "Writers and rest". What an update's bytes are and what is
-- refused stands in crates/extension/specs/Encode.antt.
-- Assumes nothing.
use Rattle.std.specs.Prelude.{Ok, Err, ◌≡◌, ℕ, ◌+◌, ◌≤◌, false, cond, List, [], ◌∷◌, length, ℤ, nat_lt}
use Rattle.codec.specs.declared.refusal.Refusal.TheVariants.{InputLong}
use Rattle.codec.specs.Rule.{offset_of}
use Rattle.codec.specs.Vlq.{vlq_bytes}
use Rattle.codec.specs.Output.{Outcome, writing}
use Rattle.codec.specs.Check.{passed}
use Rattle.extension.specs.declared.update.Update.{Update}
use Rattle.extension.specs.Section.{any}
use Rattle.extension.specs.Mandatory.{mandatory_rule}
use Rattle.extension.specs.Update.{Status, update_of, rules_in, statuses_in}
use Rattle.extension.specs.Encode.{encoded, status_list, check_update}

-- how many bytes statuses of these rule ids and sizes take
unfoldable pub statuses_size : List ℤ → List ℕ → ℕ
statuses_size [] sizes = 0
statuses_size (i ∷ ids) [] = 0
statuses_size (i ∷ ids) (n ∷ sizes) = length (vlq_bytes (offset_of i)) + length (vlq_bytes n) + 1 + n + statuses_size ids sizes

unfoldable pub encode_update : List ℕ → List ℤ → List ℕ → List ℕ → List ℕ → List ℕ → Outcome
encode_update rules ids codes sizes raw cells =
    writing (check_update rules ids codes sizes raw) (encoded rules (status_list ids codes sizes raw)) cells

-- rules alone
unfoldable pub encode_rules : List ℕ → List ℕ → Outcome
encode_rules rules cells = writing (cond (nat_lt 65536 (length rules)) (Err InputLong) passed) (encoded rules []) cells

-- what was encoded, if it is not too long to be read and no rule is mandatory, is read back
pub record EncodedBack (rules : List ℕ) (statuses : List Status) : Type 0 where
  pub update : Update
  pub parsed : update_of (encoded rules statuses) ≡ Ok update
  pub same-rules : rules_in (encoded rules statuses) update ≡ rules
  pub same-statuses : statuses_in (encoded rules statuses) update ≡ statuses

abbrev pub EncodedAgain : List ℕ → List Status → Type 0
EncodedAgain rules statuses = length (encoded rules statuses) ≤ 65536 → any mandatory_rule rules ≡ false → EncodedBack rules statuses
