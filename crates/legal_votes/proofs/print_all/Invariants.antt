use Rattle.std.proofs.Common.{◌≡◌, ◌≤◌, length}
use Rattle.std.specs.Io.KnownBytes.{Appends}
use Rattle.legal.specs.Listing.{line_most, rest_of}
use Rattle.legal_votes.specs.Prints.{Printing}
use Rattle.legal_votes.proofs.print_all.Given as goal

abbrev pub invariant-loop-filled : goal.invariant-loop-filled
invariant-loop-filled g l = Printing (Appends (g.W.Write.contents l.initial.sink) (g.W.Write.contents l.sink)) l.to l.at l.handed × (length l.out ≡ length l.initial.out) × (line_most ≤ length l.out)

abbrev pub decreases-loop-filled : goal.decreases-loop-filled
decreases-loop-filled g l = length (rest_of l.at)
