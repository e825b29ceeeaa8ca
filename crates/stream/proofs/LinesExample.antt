-- Lines that the replay prints, computed.
-- Assumes nothing.
use Rattle.std.proofs.Common.{◌≡◌, [], ◌∷◌, pos, negsuc, refl}
use Rattle.codec.specs.Decimal.{digits}
use Rattle.std.specs.Prelude.{None, Some}
use Rattle.stream.specs.Lines.{decimal, column, epoch_line, end_line}

-- `1024 1 - -`
pub epoch-example : epoch_line 1024 (record { votes = None; start = None; version = Some (pos 1) }) ≡
    49 ∷ 48 ∷ 50 ∷ 52 ∷ 32 ∷ 49 ∷ 32 ∷ 45 ∷ 32 ∷ 45 ∷ 10 ∷ []
unfolding epoch_line column decimal digits
epoch-example = refl

-- `end 1 0`
pub end-example : end_line 1 0 ≡ 101 ∷ 110 ∷ 100 ∷ 32 ∷ 49 ∷ 32 ∷ 48 ∷ 10 ∷ []
unfolding end_line digits
end-example = refl

-- `-2147483648`
pub least-example : column (Some (negsuc 2147483647)) ≡ 45 ∷ 50 ∷ 49 ∷ 52 ∷ 55 ∷ 52 ∷ 56 ∷ 51 ∷ 54 ∷ 52 ∷ 56 ∷ []
unfolding column decimal digits
least-example = refl
