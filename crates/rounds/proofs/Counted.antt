-- What the tally of an epoch of legal headers brings to the next boundary is what is counted.
-- Assumes nothing.
use mathlib.Core.Path.{◌≡◌, refl, sym, ap, ◌∙◌}
use mathlib.Core.List.{List}
use Prim.Native.Nat.{ℕ, ◌*◌, ◌≤◌}
use native.Mathlib.Omega.{arith}
use lib.IntN.{ℤ, pos}
use lib.ListN.{length}
use Rattle.codec.specs.Signed.{signed_of}
use Rattle.voting.specs.Header.{soft_fork_vote, votes_for, AllLegal}
use Rattle.voting.specs.Tally.{headers, seeded, entries, first_count, first_votes, counted_for}
use Rattle.voting.proofs.Laws.Tests.{by-test}
use Rattle.voting.proofs.Laws.Header.{alike-small}
use Rattle.counting.proofs.Laws.Count.{count_most}
use Rattle.voting.proofs.Laws.Tally.{tally-counts, whole-threes, headers-length}
use Rattle.rounds.specs.Epochs.{counted}

-- 120 is its own id
fork-id : signed_of 8 soft_fork_vote ≡ pos soft_fork_vote
unfolding signed_of
fork-id = refl

pub brought : (bytes : List ℕ) (n : ℕ) → length bytes ≡ 3 * n → AllLegal (headers bytes) → first_count (pos soft_fork_vote) (entries (seeded bytes)) ≡ counted bytes
unfolding counted
brought bytes n l legal =
    ap (λ (z : ℤ). first_count z (entries (seeded bytes))) (sym fork-id)
    ∙ tally-counts soft_fork_vote (λ q. omega arith) bytes (whole-threes bytes n l) (alike-small soft_fork_vote (omega arith) bytes) legal

pub counted-most : (bytes : List ℕ) (n : ℕ) → length bytes ≡ 3 * n → counted bytes ≤ n
unfolding counted counted_for
counted-most bytes n l =
    by-test (first_votes soft_fork_vote (headers bytes))
    (λ e. simp e (omega (arith, count_most (votes_for soft_fork_vote) (headers bytes), headers-length bytes)))
    (λ e. simp e (omega arith))
