use Rattle.std.proofs.Common.{◌≡◌, ◌+◌, ◌/◌, ◌≤◌, length}
use Rattle.voting.specs.Tally.{headers}
use Rattle.archive.specs.ForkVotes.{check_each_vote}
use Rattle.archive.proofs.fork_votes.first_barred.Given as goal

abbrev pub invariant-loop-v : goal.invariant-loop-v
invariant-loop-v l = record {
  size : l.v-iterator.size ≡ 3;
  room : l.h + length l.v-iterator.rest.now / 3 ≤ 4294967295;
  left : check_each_vote l.config l.table l.h (headers l.v-iterator.rest.now) ≡ check_each_vote l.config l.table l.height (headers l.votes);
}
