-- The rules of an update from one pass over them. This is the code's shape and need not be believed: what the calls mean is `update_of` and
-- `disables` (Update.antt).
-- Assumes nothing.
use Rattle.std.specs.Prelude.{ℕ, List, eqb, Result, Ok}
use Rattle.codec.specs.declared.refusal.Refusal.{Refusal}
use Rattle.codec.specs.Check.{and_then}
use Rattle.extension.specs.declared.section.Section.{Section}
use Rattle.extension.specs.declared.update.Rules.{Rules}
use Rattle.extension.specs.Section.{section_items, any}
use Rattle.extension.specs.Mandatory.{mandatory_rule}
use Rattle.extension.specs.Update.{read_rule}

-- the section, whether one of its rules is mandatory, and whether a certain rule is among them
unfoldable pub surveyed : List ℕ → ℕ → Section → Rules
surveyed s rule x =
    record {
      section = x;
      mandatory = any mandatory_rule (section_items (read_rule s) x);
      listed = any (eqb rule) (section_items (read_rule s) x);
    }

unfoldable pub rules_of : List ℕ → ℕ → Result Section Refusal → Result Rules Refusal
rules_of s rule x = and_then x (λ y. Ok (surveyed s rule y))
