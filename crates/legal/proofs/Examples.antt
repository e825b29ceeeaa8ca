-- The last legal number, and lines of the listing, computed.
-- Assumes nothing.
use mathlib.Core.Path.{◌≡◌, refl}
use mathlib.Core.List.{[], ◌∷◌}
use Rattle.codec.specs.Decimal.{digits}
use Rattle.codec.specs.Signed.{modulo, bits_of, signed_of, wrapped}
use Rattle.counting.specs.Count.{count}
use Rattle.voting.specs.Common.{eq_z}
use Rattle.voting.specs.Header.{votes_in, negation, ordinary_vote, fault, fault_in, check_votes, check_header_votes}
use Rattle.std.specs.Prelude.{Some, None}
use Rattle.legal.specs.Legal.{bytes_of, legal, numbers, kept, first_of, next_legal_votes, votes}
use Rattle.legal.specs.Search.{legal_from}
use Rattle.legal.specs.Listing.{line_of}
use Rattle.legal.proofs.Laws.Next.{next-is}

-- 16776824 is legal, and none is above
pub last-of-all : next_legal_votes 255 254 119 ≡ Some (votes 255 254 120)
unfolding first_of legal_from kept numbers legal bytes_of check_header_votes check_votes votes_in fault_in fault negation ordinary_vote count eq_z signed_of wrapped bits_of modulo
last-of-all = next-is 255 254 119

pub none_after : next_legal_votes 255 254 120 ≡ None
unfolding first_of legal_from kept numbers legal bytes_of check_header_votes check_votes votes_in fault_in fault negation ordinary_vote count eq_z signed_of wrapped bits_of modulo
none_after = next-is 255 254 120

-- `0`
pub first-line : line_of 0 ≡ 48 ∷ 10 ∷ []
unfolding line_of digits
first-line = refl

-- `16776824`
pub last_line : line_of 16776824 ≡ 49 ∷ 54 ∷ 55 ∷ 55 ∷ 54 ∷ 56 ∷ 50 ∷ 52 ∷ 10 ∷ []
unfolding line_of digits
last_line = refl
