-- The ordinary votes at a boundary: which are approved, and the step of each parameter. docs/RULES.md, "Boundary".
-- Assumes nothing.
use Rattle.std.specs.Prelude.{Result, Ok, Err, ℕ, ◌-◌, Bool, cond, ◌&&◌, List, [], ◌∷◌, ℤ, pos, ◌+ℤ◌, ◌-ℤ◌, int_div, int_lt, nat_le, slice_index_or, unsigned_abs, None, Some}
use Rattle.codec.specs.declared.refusal.Refusal.TheVariants.{UnknownParameter, AbsentParameter}
use Rattle.voting.specs.declared.settings.VotingConfig.{VotingConfig}
use Rattle.voting.specs.Value.{Value}
use Rattle.voting.specs.declared.table.Table.{Table}
use Rattle.voting.specs.declared.tally.Entry.{Entry}
use Rattle.codec.specs.declared.refusal.Refusal.{Refusal}
use Rattle.codec.specs.Check.{and_then}
use Rattle.voting.specs.Settings.{change_approved}
use Rattle.voting.specs.Table.{lookup, update}
use Rattle.voting.specs.Header.{soft_fork_vote}

-- The least and the greatest value and the fixed step of the parameters 1 to 9; the step 0 marks those that are computed.
abbrev pub least : List ℤ
least = pos 0 ∷ pos 0 ∷ pos 16384 ∷ pos 16384 ∷ pos 0 ∷ pos 0 ∷ pos 0 ∷ pos 0 ∷ pos 2 ∷ []

abbrev pub greatest : List ℤ
greatest =
    pos 2500000 ∷ pos 10000 ∷ pos 1073741823 ∷ pos 1073741823 ∷ pos 1073741823 ∷ pos 1073741823 ∷ pos 1073741823 ∷ pos 1073741823 ∷ pos 2048 ∷ []

abbrev pub steps : List ℤ
steps = pos 25000 ∷ pos 10 ∷ pos 0 ∷ pos 0 ∷ pos 0 ∷ pos 0 ∷ pos 0 ∷ pos 0 ∷ pos 1 ∷ []

-- a parameter's number in one of the three lists
unfoldable pub least_of : ℕ → ℤ
least_of m = slice_index_or least (m - 1) (pos 0)

unfoldable pub greatest_of : ℕ → ℤ
greatest_of m = slice_index_or greatest (m - 1) (pos 0)

unfoldable pub fixed_step_of : ℕ → ℤ
fixed_step_of m = slice_index_or steps (m - 1) (pos 0)

-- the larger of 1 and a hundredth of the value, cut toward zero
unfoldable pub hundredth : ℤ → ℤ
hundredth z = cond (int_lt (pos 1) (int_div z (pos 100))) (int_div z (pos 100)) (pos 1)

unfoldable pub step_size : ℤ → ℤ → ℤ
step_size fixed z = cond (int_lt (pos 0) fixed) fixed (hundredth z)

-- one step up from below the greatest, or down from above the least; the result is not clamped
unfoldable pub raised : ℕ → ℤ → ℤ
raised m z = cond (int_lt z (greatest_of m)) (z +ℤ step_size (fixed_step_of m) z) z

unfoldable pub lowered : ℕ → ℤ → ℤ
lowered m z = cond (int_lt (least_of m) z) (z -ℤ step_size (fixed_step_of m) z) z

-- a vote's parameter: the id without its sign; a vote is for up if its id is above 0
abbrev pub parameter : ℤ → ℕ
parameter id = unsigned_abs id

unfoldable pub moved : ℤ → ℤ → ℤ
moved id z = cond (int_lt (pos 0) id) (raised (parameter id) z) (lowered (parameter id) z)

-- 1 to 9
unfoldable pub known : ℕ → Bool
known m = nat_le 1 m && nat_le m 9

-- an entry that counts here: its id is below 120 and its count is approved
unfoldable pub counts : VotingConfig → Entry → Bool
counts g e = int_lt e.id (pos soft_fork_vote) && change_approved g e.count

-- the parameter's old value, moved; 14 where it is absent
unfoldable pub writes : ℤ → Table → Value → Result Table Refusal
writes id new None = Err AbsentParameter
writes id new (Some z) = Ok (update new (parameter id) (Some (moved id z)))

-- an approved vote: 13 where the parameter is unknown; its value is read in the table after the fork part
unfoldable pub approved_vote : Table → ℤ → Table → Result Table Refusal
approved_vote from id new = cond (known (parameter id)) (writes id new (lookup from (parameter id))) (Err UnknownParameter)

unfoldable pub voted : VotingConfig → Table → Entry → Table → Result Table Refusal
voted g from e new = cond (counts g e) (approved_vote from e.id new) (Ok new)

-- the entries in order; all read the same table, and the last write wins
unfoldable pub ordinary_votes : VotingConfig → Table → List Entry → Table → Result Table Refusal
ordinary_votes g from [] new = Ok new
ordinary_votes g from (e ∷ es) new = and_then (voted g from e new) (ordinary_votes g from es)

-- The three lists as the Rust reads them: nothing for an id that is no parameter, and for a computed step.
unfoldable pub parameter_min : ℤ → Value
parameter_min id = cond (known (parameter id)) (Some (least_of (parameter id))) None

unfoldable pub parameter_max : ℤ → Value
parameter_max id = cond (known (parameter id)) (Some (greatest_of (parameter id))) None

unfoldable pub parameter_step : ℤ → Value
parameter_step id = cond (known (parameter id) && int_lt (pos 0) (fixed_step_of (parameter id))) (Some (fixed_step_of (parameter id))) None
