use Rattle.std.proofs.Common.{◌≡◌}
use Rattle.voting.specs.Tally.{headers}
use Rattle.headers.specs.Headers.{check_each}
use Rattle.headers.proofs.first_illegal.Given as goal

abbrev pub invariant-loop-h : goal.invariant-loop-h
invariant-loop-h l = record {
  size : l.h-iterator.size ≡ 3;
  left : check_each (headers l.h-iterator.rest.now) ≡ check_each (headers l.votes);
}
