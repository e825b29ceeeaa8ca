-- No test of this crate answers 15, which is the match's own.
-- Assumes nothing.
use Rattle.std.proofs.Common.{◌≡◌, ℕ, Bool, true, false, cond, eqb, ltb, List, [], ◌∷◌, ℤ, pos}
use Rattle.std.specs.Prelude.{Result, Ok, Err, IfErr, None, Some}
use Rattle.std.specs.Result.{result_and}
use Rattle.codec.specs.declared.refusal.Refusal.{Refusal}
use Rattle.codec.specs.declared.refusal.Refusal.TheVariants.{TooManyVotes, RepeatedVote, ContradictoryVote, ForkVoteBarred, EntryDiffers, VotingLengthZero, SettingLarge, VotesCollectedAbsent}
use Rattle.codec.specs.Check.{Check, and_then, passed}
use Rattle.counting.specs.Count.{count}
use Rattle.voting.specs.Common.{eq_z}
use Rattle.voting.specs.Settings.{voting_length, settings_large}
use Rattle.voting.specs.Table.{lookup, with_fork}
use Rattle.voting.specs.Tally.{first_count}
use Rattle.voting.specs.Header.{votes_in, negation, soft_fork_vote, ordinary_vote, votes_for, fault, fault_in, check_votes, check_header_votes}
use Rattle.voting.specs.ForkCheck.{barred, check_round, check_fork_vote}
use Rattle.voting.specs.ForkPart.{no_round, phase_at, reads_total, version_by, risen, five_steps, forced, finished, running, opening, by_start, fork_part}
use Rattle.voting.specs.Ordinary.{voted, ordinary_votes}
use Rattle.voting.specs.Boundary.{boundary_of}
use Rattle.voting.specs.declared.settings.VotingConfig.{VotingConfig}
use Rattle.voting.specs.Value.{Value}
use Rattle.voting.specs.declared.table.Fork.{Fork}
use Rattle.voting.specs.declared.table.Table.{Table}
use Rattle.voting.specs.declared.tally.Entry.{Entry}
use Rattle.voting.specs.declared.fork.Phase.{Phase}
use Rattle.voting.specs.declared.fork.Round.{Round}
use Rattle.voting.proofs.Laws.Ordinary.{by-vote}

-- a refusal that is not 15
abbrev pub IsOther : Refusal → Type 0
IsOther e = e ≡ EntryDiffers → ⊥

-- an answer that is not refused by 15
abbrev pub Other : {A : Type 0} → Result A Refusal → Type 0
Other r = IfErr r IsOther

-- of two checks in order: what holds of both
pub first_by : (P : Check → Type 0) (r s : Check) → P r → P s → P (result_and r s)
first_by P (Ok tt) s p q = q
first_by P (Err e) s p q = p

-- of two answers in order, and of what goes on after one
module _ {A B : Type 0} where
  pub and-other : (r : Result A Refusal) (s : Result B Refusal) → Other r → Other s → Other (result_and r s)
  and-other (Ok x) s p q = q
  and-other (Err e) s p q = p

  pub then-other : (r : Result A Refusal) (next : A → Result B Refusal) → Other r → ((x : A) → Other (next x)) → Other (and_then r next)
  then-other (Ok x) next p q = q x
  then-other (Err e) next p q = p

-- the header check: what holds of an answer that passes and of the refusals 9 to 11
module _ (P : Check → Type 0) (none : P passed) (many : P (Err TooManyVotes)) (repeated : P (Err RepeatedVote)) (contradictory : P (Err ContradictoryVote)) where
  fault-by : (all : List ℤ) (v : ℤ) → P (fault all v)
  unfolding fault
  fault-by all v = go (ltb 1 (count (eq_z v) all)) (ltb 0 (count (eq_z (negation v)) all))
    where
      go : (a b : Bool) → P (cond a (Err RepeatedVote) (cond b (Err ContradictoryVote) passed))
      go true b = repeated
      go false true = contradictory
      go false false = none

  faults-by : (all vs : List ℤ) → P (fault_in all vs)
  unfolding fault_in
  faults-by all [] = none
  faults-by all (v ∷ vs) = first_by P (fault all v) (fault_in all vs) (fault-by all v) (faults-by all vs)

  pub header-by : (bytes : List ℕ) → P (check_header_votes bytes)
  unfolding check_header_votes check_votes
  header-by bytes = go (ltb 2 (count ordinary_vote (votes_in bytes)))
    where
      go : (a : Bool) → P (cond a (Err TooManyVotes) (fault_in (votes_in bytes) (votes_in bytes)))
      go true = many
      go false = faults-by (votes_in bytes) (votes_in bytes)

pub header-other : (bytes : List ℕ) → Other (check_header_votes bytes)
header-other = header-by Other tt (λ q. cc) (λ q. cc) (λ q. cc)

-- the fork check: 12, 18 and 19
round-other : (g : VotingConfig) (height : ℕ) (start votes : Value) → Other (check_round g height start votes)
unfolding check_round
round-other g height None votes = tt
round-other g height (Some start) None = λ q. cc
round-other g height (Some start) (Some votes) = go (barred g height start votes)
  where
    go : (a : Bool) → Other (cond a (Err ForkVoteBarred) passed)
    go true = λ q. cc
    go false = tt

pub fork-vote-other : (g : VotingConfig) (height : ℕ) (votes : List ℕ) (t : Table) → Other (check_fork_vote g height votes t)
unfolding check_fork_vote
fork-vote-other g height votes t = go (settings_large g) (votes_for soft_fork_vote votes)
  where
    go : (a b : Bool) → Other (cond a (Err SettingLarge) (cond b (check_round g height (lookup t 122) (lookup t 121)) passed))
    go true b = λ q. cc
    go false true = round-other g height (lookup t 122) (lookup t 121)
    go false false = tt

-- the boundary: 17 to 20, 13 and 14
version-other : (changes : Bool) (next : ℤ → ℤ) (f : Fork) (v : Value) → Other (version_by changes next f v)
unfolding version_by
version-other true next f None = λ q. cc
version-other false next f None = tt
version-other changes next f (Some z) = tt

finished-other : (g : VotingConfig) (height : ℕ) (round : Round) (f : Result Fork Refusal) → Other f → Other (finished g height round f)
unfolding finished forced
finished-other g height round f p = then-other f _ p (λ stepped. then-other _ _ (version-other _ _ stepped stepped.version) (λ last. tt))

running-other : (g : VotingConfig) (height : ℕ) (vote : Bool) (votes : ℕ) (old : Fork) (p : Phase) (collected : Value) → Other (running g height vote votes old p collected)
unfolding running five_steps risen
running-other g height vote votes old p None = go (reads_total p)
  where
    go : (a : Bool) → Other (cond a (Err VotesCollectedAbsent) (finished g height no_round (Ok old)))
    go true = λ q. cc
    go false = finished-other g height no_round (Ok old) tt
running-other g height vote votes old p (Some n) = finished-other g height _ _ (version-other _ _ _ _)

by-start-other : (g : VotingConfig) (height : ℕ) (vote : Bool) (votes : ℕ) (old : Fork) (start : Value) → Other (by_start g height vote votes old start)
unfolding by_start opening
by-start-other g height vote votes old None = finished-other g height _ _ tt
by-start-other g height vote votes old (Some s) = running-other g height vote votes old (phase_at g height s) old.votes

fork-part-other : (g : VotingConfig) (height : ℕ) (vote : Bool) (votes : ℕ) (old : Fork) → Other (fork_part g height vote votes old)
unfolding fork_part
fork-part-other g height vote votes old = go (eqb (voting_length g) 0) (settings_large g)
  where
    go : (a b : Bool) → Other (cond a (Err VotingLengthZero) (cond b (Err SettingLarge) (by_start g height vote votes old old.start)))
    go true b = λ q. cc
    go false true = λ q. cc
    go false false = by-start-other g height vote votes old old.start

module _ (g : VotingConfig) (from : Table) where
  voted-other : (e : Entry) (new : Table) → Other (voted g from e new)
  voted-other e new = by-vote (λ f. Other (f new)) g from e (λ c. tt) (λ c k q. cc) (λ c k l q. cc) (λ z c k l. tt)

  votes-other : (tally : List Entry) (new : Table) → Other (ordinary_votes g from tally new)
  unfolding ordinary_votes
  votes-other [] new = tt
  votes-other (e ∷ es) new = then-other (voted g from e new) (ordinary_votes g from es) (voted-other e new) (votes-other es)

pub boundary-other : (g : VotingConfig) (height : ℕ) (t : Table) (tally : List Entry) (vote disables : Bool) → Other (boundary_of g height t tally vote disables)
unfolding boundary_of
boundary-other g height t tally vote disables =
    then-other (fork_part g height vote (first_count (pos soft_fork_vote) tally) t.fork) _ (fork-part-other g height vote _ t.fork)
    (λ part. then-other (ordinary_votes g (with_fork t part.fork) tally (with_fork t part.fork)) _ (votes-other g (with_fork t part.fork) tally (with_fork t part.fork)) (λ voted. tt))
