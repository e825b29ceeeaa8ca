-- The five records and the year of steps, computed.
-- Assumes nothing.
use mathlib.Core.Path.{refl}
use Rattle.codec.specs.Signed.{modulo, bits_of, signed_of, wrapped}
use Rattle.codec.specs.BigEndian.{big_endian, big_endian_bytes}
use Rattle.codec.specs.Vlq.{continued, byte, number_of, low64, below, vlq_of, placed, vlq_at}
use Rattle.counting.specs.Count.{count}
use Rattle.voting.specs.Common.{eq_z}
use Rattle.voting.specs.Settings.{change_approved, settings_large}
use Rattle.voting.specs.Table.{lookup, update}
use Rattle.voting.specs.Header.{votes_in, negation, ordinary_vote, fault, fault_in, check_votes, check_header_votes, votes_for}
use Rattle.voting.specs.Tally.{headers, whole, slot_entry, seeded, seeds, tally_votes_seeded, entry, entries, first_count, first_votes, counted_for}
use Rattle.voting.specs.ForkCheck.{check_fork_vote}
use Rattle.voting.specs.ForkPart.{begun, version_by, two_for_one, forced, finished, opening, by_start, fork_part}
use Rattle.voting.specs.Ordinary.{least_of, greatest_of, fixed_step_of, hundredth, step_size, raised, lowered, moved, known, counts, writes, approved_vote, voted, ordinary_votes}
use Rattle.voting.specs.Boundary.{is_number, is_absent, with_subblocks, boundary_of}
use Rattle.rounds.specs.Epochs.{boundary_votes, last_of}
use Rattle.rounds.specs.Replay.{add-epoch, epochs}
use Rattle.extension.specs.Section.{after, listing, items, closed, section_items, any}
use Rattle.extension.specs.Body.{field_at, field_reading, read_field, fields_from, extension_of, fields_in, fields_of, update_key, parameter_key, update_in, proposed_update, wrong_size, wrong_parameter, check_sizes, check_body}
use Rattle.extension.specs.Parameters.{no_parameters, entry_of, number_in, taken, parameters_in, parameters_of, agrees, table_ids, first_differing, matched, check_parameters}
use Rattle.extension.specs.Update.{update_of}
use Rattle.extension.specs.Boundary.{activates, computed_of}
use Rattle.archive.specs.Record.{tagged_bytes, record_bytes, sized_at, tagged_at, record_at}
use Rattle.headers.specs.Headers.{check_each, check_headers}
use Rattle.archive.specs.ForkVotes.{check_each_vote, check_fork_votes}
use Rattle.archive.specs.Replay.{by_refusal, by_mismatch, check_height, after_match, after_boundary, on_parts, on_record, replay_of, state_by}
use Rattle.archive.specs.Rounds.{answer, record_votes, state_after}
use Rattle.archive.specs.Steps.{epoch_before}
use Rattle.archive.specs.StepsExample.{StepsTaken, repeated, YearOfSteps}

pub steps-taken : StepsTaken
unfolding modulo bits_of signed_of wrapped big_endian big_endian_bytes continued byte number_of low64 below vlq_of placed vlq_at eq_z count change_approved settings_large lookup update votes_in negation ordinary_vote fault fault_in check_votes check_header_votes votes_for headers whole slot_entry seeded seeds tally_votes_seeded entry entries first_count first_votes counted_for check_fork_vote begun version_by two_for_one forced finished opening by_start fork_part least_of greatest_of fixed_step_of step_size raised lowered moved known counts writes approved_vote voted ordinary_votes is_number is_absent with_subblocks boundary_of boundary_votes last_of add-epoch epochs after listing items closed section_items any field_at field_reading read_field fields_from extension_of fields_in fields_of update_key parameter_key update_in proposed_update wrong_size wrong_parameter check_sizes check_body no_parameters entry_of number_in taken parameters_in parameters_of agrees table_ids first_differing matched check_parameters update_of activates computed_of tagged_bytes record_bytes sized_at tagged_at record_at check_each check_headers check_each_vote check_fork_votes by_refusal by_mismatch check_height after_match after_boundary on_parts on_record replay_of state_by answer record_votes state_after epoch_before
steps-taken =
    record {
      turned_down = refl;
      two-for-up = refl;
      none-for-down = refl;
      up-beyond-greatest = refl;
      silent-boundary = refl;
      stays = refl;
      two-for-down = refl;
      down = refl;
    }

pub year-of-steps : YearOfSteps
unfolding least_of greatest_of fixed_step_of hundredth step_size raised lowered repeated
year-of-steps = record { all_up = refl; all-down = refl }
