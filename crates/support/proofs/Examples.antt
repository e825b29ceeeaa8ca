-- Support over a few headers, one of them refused, and the edges of a new window's refusals, computed.
-- Assumes nothing.
use Rattle.std.proofs.Common.{◌≡◌, ℕ, List, [], ◌∷◌, refl}
use Rattle.std.specs.Prelude.{Err}
use Rattle.codec.specs.declared.refusal.Refusal.TheVariants.{OutputShort, WindowLengthOutside}
use Rattle.codec.specs.Check.{passed}
use Rattle.codec.specs.Signed.{modulo, bits_of, signed_of, wrapped}
use Rattle.counting.specs.Count.{count}
use Rattle.voting.specs.Common.{eq_z}
use Rattle.voting.specs.Header.{votes_in, negation, ordinary_vote, fault, fault_in, check_votes, check_header_votes, votes_for}
use Rattle.support.specs.Support.{accepted, support}
use Rattle.support.specs.Window.{check_room, check_new}

-- the second repeats a vote
abbrev four : List (List ℕ)
four = (120 ∷ 0 ∷ 0 ∷ []) ∷ (1 ∷ 1 ∷ 0 ∷ []) ∷ (120 ∷ 1 ∷ 0 ∷ []) ∷ (1 ∷ 0 ∷ 2 ∷ []) ∷ []

abbrev supports : ℕ → List ℕ
supports n = support n four 0 ∷ support n four 1 ∷ support n four 2 ∷ support n four 120 ∷ []

-- of 0, 1, 2 and 120: over the last, over the last two, and over all three that were accepted
pub last_one : supports 1 ≡ 0 ∷ 1 ∷ 1 ∷ 0 ∷ []
unfolding support accepted votes_for check_header_votes check_votes votes_in fault_in fault negation ordinary_vote count eq_z signed_of wrapped bits_of modulo
last_one = refl

pub last-two : supports 2 ≡ 0 ∷ 2 ∷ 1 ∷ 1 ∷ []
unfolding support accepted votes_for check_header_votes check_votes votes_in fault_in fault negation ordinary_vote count eq_z signed_of wrapped bits_of modulo
last-two = refl

pub all_three : supports 4096 ≡ 0 ∷ 2 ∷ 1 ∷ 2 ∷ []
unfolding support accepted votes_for check_header_votes check_votes votes_in fault_in fault negation ordinary_vote count eq_z signed_of wrapped bits_of modulo
all_three = refl

-- the edges of the refusals of a new window: length and cells
pub lengths : check_new 0 13000 ∷ check_new 1 259 ∷ check_new 4096 12544 ∷ check_new 4097 13000 ∷ [] ≡ Err WindowLengthOutside ∷ passed ∷ passed ∷ Err WindowLengthOutside ∷ []
unfolding check_new check_room
lengths = refl

pub cells : check_new 1 258 ∷ check_new 4096 12543 ∷ check_new 4097 0 ∷ [] ≡ Err OutputShort ∷ Err OutputShort ∷ Err WindowLengthOutside ∷ []
unfolding check_new check_room
cells = refl
