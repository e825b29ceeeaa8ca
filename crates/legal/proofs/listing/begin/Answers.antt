use mathlib.Core.Path.{refl}
use Rattle.legal.proofs.Laws.Listing.{pieces-all}
use Rattle.legal.proofs.listing.begin.Goals as goal

pub returns : goal.returns
returns c = record {
  value = refl;
  pieces = pieces-all;
}
