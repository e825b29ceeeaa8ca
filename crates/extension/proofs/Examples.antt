-- The table of examples, computed.
-- Assumes nothing.
use mathlib.Core.Path.{refl}
use Rattle.codec.specs.Signed.{modulo, bits_of, signed_of, wrapped}
use Rattle.codec.specs.Vlq.{continued, byte, number_of, low64, below, vlq_of, placed, vlq_at}
use Rattle.codec.specs.Rule.{rule_of}
use Rattle.counting.specs.Count.{count}
use Rattle.voting.specs.Common.{eq_z}
use Rattle.voting.specs.Settings.{mainnet, fork_limit, soft_fork_approved, change_approved}
use Rattle.voting.specs.Header.{votes_in, negation, ordinary_vote, fault, fault_in, check_votes, check_header_votes}
use Rattle.voting.specs.ForkPart.{fork_total}
use Rattle.voting.specs.Ordinary.{least_of, greatest_of, fixed_step_of, hundredth, step_size, raised, lowered, moved}
use Rattle.extension.specs.Section.{after, listing, items, closed, section_items, any}
use Rattle.extension.specs.Mandatory.{mandatory_rule}
use Rattle.extension.specs.Update.{placed_rule, rule_at, rule_reading, read_rule, count_in, items_from, with_rules, update_of, rules_in}
use Rattle.extension.specs.Examples.{Examples}

pub examples : Examples
unfolding modulo bits_of signed_of wrapped continued byte number_of low64 below vlq_of placed vlq_at rule_of eq_z count mainnet fork_limit soft_fork_approved change_approved votes_in negation ordinary_vote fault fault_in check_votes check_header_votes fork_total least_of greatest_of fixed_step_of hundredth step_size raised lowered moved after listing items closed section_items any mandatory_rule placed_rule rule_at rule_reading read_rule count_in items_from with_rules update_of rules_in
examples =
    record {
      two-votes-and-fork = refl;
      three-votes = refl;
      fork-twice = refl;
      own-negation = refl;
      total-at-limit = refl;
      total-above-limit = refl;
      count-at-half = refl;
      count-above-half = refl;
      up-past-greatest = refl;
      up-at-greatest = refl;
      up-by-hundredth = refl;
      down-past-least = refl;
      total-wraps = refl;
      wrapped-total = refl;
      disables-215 = refl;
      disables-214 = refl;
      offset-wraps = refl;
    }
